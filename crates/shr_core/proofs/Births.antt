-- SPDX-License-Identifier: GPL-2.0-only
-- The objects that an entry leaves and frees are born in groups where those before it are.
use Rattle.shr_core.proofs.Common.{ℕ, zero, suc, ◌<◌, Bool, true, false, if◌then◌else◌, List, [], ◌∷◌, ◌++◌, refl, Option, Some, None, Object, Policy, Entry, Add, Look, Drop, Pin, Scan, MovedIn, Closed, Drained, fresh, step, Each-append, Each-cons, Each-none, Each-push, AreBorn, find, is_named, holds, named_in, marked_object, unmarked_object, pinned_object, change_first, without_first, after_drop, dropped_of, freed_by}
use Rattle.shr_base.specs.declared.objects.LruStatus.TheVariants.{Removed, Rotate, Skip, Stop}
use Rattle.shr_model.specs.Scan.{Scanned, case_of, scan_ends, after_visit, after_freeing, scan_from}

-- an Add is of a group
abbrev pub IsBornIn : ℕ → Entry → Type 0
IsBornIn groups (Add by birth added key value) = birth < groups
IsBornIn groups (Look by birth key hit) = Unit {0}
IsBornIn groups (Drop by birth key kind) = Unit {0}
IsBornIn groups (Pin by birth key pinned hit) = Unit {0}
IsBornIn groups (Scan worker walk asked policy visits freed stopped) = Unit {0}
IsBornIn groups (MovedIn child objects) = Unit {0}
IsBornIn groups Closed = Unit {0}
IsBornIn groups (Drained by objects) = Unit {0}

module _ (groups : ℕ) where
  abbrev P : Object → Type 0
  P x = x.birth < groups

  -- the first object and the rest
  head_born : (x : Object) (xs : List Object) → AreBorn groups (x ∷ xs) → P x
  head_born x xs all = all 0 x refl

  rest_born : (x : Object) (xs : List Object) → AreBorn groups (x ∷ xs) → AreBorn groups xs
  rest_born x xs all j y e = all (suc j) y e

  change_born : (test : Object → Bool) (change : Object → Object) → ((x : Object) → P x → P (change x)) → (xs : List Object) → AreBorn groups xs → AreBorn groups (change_first test change xs)
  change_born test change keeps [] all = all
  change_born test change keeps (x ∷ xs) all = elim (test x) as (λ b. AreBorn groups (if b then change x ∷ xs else (x ∷ change_first test change xs))) [
    | true ↦ Each-cons P (change x) xs (keeps x (head_born x xs all)) (rest_born x xs all)
    | false ↦ Each-cons P x (change_first test change xs) (head_born x xs all) (change_born test change keeps xs (rest_born x xs all))
  ]

  without_born : (test : Object → Bool) (xs : List Object) → AreBorn groups xs → AreBorn groups (without_first test xs)
  without_born test [] all = all
  without_born test (x ∷ xs) all = elim (test x) as (λ b. AreBorn groups (if b then xs else (x ∷ without_first test xs))) [
    | true ↦ rest_born x xs all
    | false ↦ Each-cons P x (without_first test xs) (head_born x xs all) (without_born test xs (rest_born x xs all))
  ]

  -- what a scan leaves and what it frees
  abbrev ScannedBorn : Scanned → Type 0
  ScannedBorn s = AreBorn groups s.items × AreBorn groups s.freed

  scan_born : (policy : Policy) (asked : ℕ) (skipped items : List Object) → AreBorn groups skipped → AreBorn groups items → ScannedBorn (scan_from policy asked skipped items)
  unfolding scan_from
  scan_born policy zero skipped items before all = (Each-append P skipped items before all, Each-none P)
  scan_born policy (suc asked) skipped [] before all = (before, Each-none P)
  scan_born policy (suc asked) skipped (x ∷ []) before all = let here : P x = head_born x [] all in elim (case_of policy x) as (λ c. ScannedBorn (elim c as (λ _. Scanned) [
    | Removed ↦ after_freeing x (scan_ends skipped)
    | Rotate ↦ after_visit (scan_ends (skipped ++ unmarked_object x ∷ []))
    | Skip ↦ after_visit (scan_ends (skipped ++ x ∷ []))
    | Stop ↦ record { items = skipped ++ x ∷ []; freed = []; visits = 1; stopped = true }
  ])) [
    | Removed ↦ (before, all)
    | Rotate ↦ (Each-push P skipped (unmarked_object x) here before, Each-none P)
    | Skip ↦ (Each-push P skipped x here before, Each-none P)
    | Stop ↦ (Each-push P skipped x here before, Each-none P)
  ]
  scan_born policy (suc asked) skipped (x ∷ y ∷ ys) before all = let here : P x = head_born x (y ∷ ys) all in let later : AreBorn groups (y ∷ ys) = rest_born x (y ∷ ys) all in elim (case_of policy x) as (λ c. ScannedBorn (elim c as (λ _. Scanned) [
    | Removed ↦ after_freeing x (scan_from policy asked skipped (y ∷ ys))
    | Rotate ↦ after_visit (scan_from policy asked skipped (y ∷ ys ++ unmarked_object x ∷ []))
    | Skip ↦ after_visit (scan_from policy asked (skipped ++ x ∷ []) (y ∷ ys))
    | Stop ↦ record { items = skipped ++ x ∷ y ∷ ys; freed = []; visits = 1; stopped = true }
  ])) [
    | Removed ↦ let t = scan_born policy asked skipped (y ∷ ys) before later in (t.0, Each-cons P x (scan_from policy asked skipped (y ∷ ys)).freed here t.1)
    | Rotate ↦ scan_born policy asked skipped (y ∷ ys ++ unmarked_object x ∷ []) before (Each-push P (y ∷ ys) (unmarked_object x) here later)
    | Skip ↦ scan_born policy asked (skipped ++ x ∷ []) (y ∷ ys) (Each-push P skipped x here before) later
    | Stop ↦ (Each-append P skipped (x ∷ y ∷ ys) before all, Each-none P)
  ]

  found_born : (test : Object → Bool) (xs : List Object) → AreBorn groups xs → AreBorn groups (dropped_of (find test xs))
  found_born test [] all = Each-none P
  found_born test (x ∷ xs) all = elim (test x) as (λ b. AreBorn groups (dropped_of (if b then Some x else find test xs))) [
    | true ↦ elim x.pinned as (λ b. AreBorn groups (if b then [] else x ∷ [])) [
      | true ↦ Each-none P
      | false ↦ Each-cons P x [] (head_born x xs all) (Each-none P)
    ]
    | false ↦ found_born test xs (rest_born x xs all)
  ]

  dropped_born : (birth : ℕ) (key : List ℕ) (xs : List Object) → AreBorn groups xs → (found : Option Object) → AreBorn groups (after_drop birth key xs found)
  dropped_born birth key xs all None = all
  dropped_born birth key xs all (Some object) = elim object.pinned as (λ b. AreBorn groups (if b then xs else without_first (is_named birth key) xs)) [
    | true ↦ all
    | false ↦ without_born (is_named birth key) xs all
  ]

  -- the items after an entry
  pub step_born : (moved items : List Object) (e : Entry) → IsBornIn groups e → AreBorn groups moved → AreBorn groups items → AreBorn groups (step moved items e)
  step_born moved items (Add by birth added key value) near before all = elim (holds birth key items) as (λ b. AreBorn groups (if b then items else items ++ fresh by birth key value ∷ [])) [
    | true ↦ all
    | false ↦ Each-push P items (fresh by birth key value) near all
  ]
  step_born moved items (Look by birth key hit) near before all = change_born (is_named birth key) marked_object (λ x p. p) items all
  step_born moved items (Drop by birth key kind) near before all = dropped_born birth key items all (named_in birth key items)
  step_born moved items (Pin by birth key pinned hit) near before all = change_born (is_named birth key) (pinned_object pinned) (λ x p. p) items all
  step_born moved items (Scan worker walk asked policy visits freed stopped) near before all = (scan_born policy asked [] items (Each-none P) all).0
  step_born moved items (MovedIn child objects) near before all = Each-append P moved items before all
  step_born moved items Closed near before all = Each-none P
  step_born moved items (Drained by objects) near before all = Each-none P

  -- the objects that an entry frees
  pub freed_born : (items : List Object) (e : Entry) → AreBorn groups items → AreBorn groups (freed_by items e)
  freed_born items (Add by birth added key value) all = Each-none P
  freed_born items (Look by birth key hit) all = Each-none P
  freed_born items (Drop by birth key kind) all = found_born (is_named birth key) items all
  freed_born items (Pin by birth key pinned hit) all = Each-none P
  freed_born items (Scan worker walk asked policy visits freed stopped) all = (scan_born policy asked [] items (Each-none P) all).1
  freed_born items (MovedIn child objects) all = Each-none P
  freed_born items Closed all = Each-none P
  freed_born items (Drained by objects) all = all
