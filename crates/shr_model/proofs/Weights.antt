-- SPDX-License-Identifier: GPL-2.0-only
-- What a journal adds and takes in weighs what it frees, gives away and leaves, whatever a serial
-- weighs.
use Rattle.shr_model.proofs.Common.{◌≡◌, ℕ, zero, suc, ◌+◌, ◌<◌, Bool, true, ◌==◌, cond, List, [], ◌∷◌, ◌++◌, find, IsPermutation, refl, Option, Some, None, ap, sym, arith, inl, inr, cases_Bool, and_parts, and_from, eqb-true, IsPermutation-refl, IsPermutation-sym, IsPermutation-trans, IsPermutation-cons, IsPermutation-middle, Object, Policy, Serial, Entry, Add, Look, Drop, Pin, Scan, MovedIn, Closed, Drained, is_named, named_in, marked_object, unmarked_object, pinned_object, without_first, LruStatus, Removed, Rotate, Skip, case_of, Scanned, scan_ends, after_visit, after_freeing, dropped_of, after_drop, first_moved, later_moved, step, IsOutcome, freed_by, serials_of, added_by, added_by_all}
use Rattle.std.proofs.Common.{append-nil}
use Rattle.std.proofs.lemmas.Bool.{eq-eqb}
use Rattle.shr_base.specs.declared.objects.LruStatus.TheVariants.{Stop}
use Rattle.shr_model.specs.Commands.{is_serial}
use Rattle.shr_model.specs.Scan.{scan_from}
use Rattle.shr_model.specs.Items.{items_from, freed_from, AreOutcomes}
use Rattle.shr_model.proofs.BagLaws.{serials_of_changed, serials_of_added}

-- the sum of what the serials weigh
abbrev pub weight : (Serial → ℕ) → List Serial → ℕ
weight w [] = 0
weight w (s ∷ ss) = w s + weight w ss

-- what the objects weigh
abbrev pub mass : (Serial → ℕ) → List Object → ℕ
mass w objects = weight w (serials_of objects)

pub weight_append : (w : Serial → ℕ) (xs ys : List Serial) → weight w (xs ++ ys) ≡ weight w xs + weight w ys
weight_append w [] ys = omega arith
weight_append w (x ∷ xs) ys = omega (arith, weight_append w xs ys)

pub mass_append : (w : Serial → ℕ) (xs ys : List Object) → mass w (xs ++ ys) ≡ mass w xs + mass w ys
mass_append w [] ys = omega arith
mass_append w (x ∷ xs) ys = omega (arith, mass_append w xs ys)

-- two serials are one
pub serial_itself : (x : Serial) → is_serial x x ≡ true
serial_itself x = and_from (x.worker == x.worker) (x.command == x.command) (eq-eqb x.worker x.worker refl) (eq-eqb x.command x.command refl)

pub is_serial_same : (x y : Serial) → is_serial x y ≡ true → x ≡ y
is_serial_same x y h =
    let parts = and_parts (x.worker == y.worker) (x.command == y.command) h in
    let workers = eqb-true x.worker y.worker parts.0 in
    let commands = eqb-true x.command y.command parts.1 in
    λ i. record { worker = workers i; command = commands i }

-- one serial weighs one, and any other nothing
abbrev weight_of_one : Serial → Serial → ℕ
weight_of_one x y = cond (is_serial x y) 1 0

-- a list in which a serial has weight has that serial
split_at_serial : (x : Serial) (ys : List Serial) → 0 < weight (weight_of_one x) ys → (before : List Serial) × (after : List Serial) × (ys ≡ before ++ x ∷ after)
split_at_serial x [] h = absurd (omega (arith, h))
split_at_serial x (y ∷ ys) h = elim (cases_Bool (is_serial x y)) [
  | inl e ↦ ([], ys, ap (λ (s : Serial). s ∷ ys) (sym (is_serial_same x y e)))
  | inr e ↦
      let rest = rw e at h in
      let split = split_at_serial x ys (omega (arith, rest)) in
      (y ∷ split.0, split.1, ap (λ (ss : List Serial). y ∷ ss) split.2)
]

-- lists that weigh the same, whatever a serial weighs, have the same serials
pub IsPermutation_from_weights : (xs ys : List Serial) → ((w : Serial → ℕ) → weight w xs ≡ weight w ys) → IsPermutation xs ys
IsPermutation_from_weights [] [] h = IsPermutation-refl []
IsPermutation_from_weights [] (y ∷ ys) h = absurd (omega (arith, h (λ s. 1)))
IsPermutation_from_weights (x ∷ xs) ys h =
    let one : weight_of_one x x ≡ 1 = ap (λ (b : Bool). cond b 1 0) (serial_itself x) in
    let split = split_at_serial x ys (omega (arith, h (weight_of_one x), one)) in
    let before = split.0 in
    let after = split.1 in
    let rest = IsPermutation_from_weights xs (before ++ after)
    (λ w. omega (arith, h w, ap (weight w) split.2, weight_append w before (x ∷ after), weight_append w before after)) in
    rw split.2 (IsPermutation-trans (x ∷ xs) (x ∷ (before ++ after)) (before ++ x ∷ after)
    (IsPermutation-cons x xs (before ++ after) rest)
    (IsPermutation-sym (before ++ x ∷ after) (x ∷ (before ++ after)) (IsPermutation-middle before x after)))

-- a scan that has one item before it
abbrev one_left : List Object → Object → LruStatus → Scanned
one_left skipped x case = elim case as (λ _. Scanned) [
  | Removed ↦ after_freeing x (scan_ends skipped)
  | Rotate ↦ after_visit (scan_ends (skipped ++ unmarked_object x ∷ []))
  | Skip ↦ after_visit (scan_ends (skipped ++ x ∷ []))
  | Stop ↦ record { items = skipped ++ x ∷ []; freed = []; visits = 1; stopped = true }
]

-- a scan that has more
abbrev more_left : Policy → ℕ → List Object → Object → List Object → LruStatus → Scanned
more_left policy asked skipped x rest case = elim case as (λ _. Scanned) [
  | Removed ↦ after_freeing x (scan_from policy asked skipped rest)
  | Rotate ↦ after_visit (scan_from policy asked skipped (rest ++ unmarked_object x ∷ []))
  | Skip ↦ after_visit (scan_from policy asked (skipped ++ x ∷ []) rest)
  | Stop ↦ record { items = skipped ++ x ∷ rest; freed = []; visits = 1; stopped = true }
]

mass_of_one_left : (w : Serial → ℕ) (skipped : List Object) (x : Object) (case : LruStatus) → mass w (skipped ++ x ∷ []) ≡ mass w (one_left skipped x case).freed + mass w (one_left skipped x case).items
mass_of_one_left w skipped x Removed = omega (arith, mass_append w skipped (x ∷ []))
mass_of_one_left w skipped x Rotate = omega (arith, mass_append w skipped (x ∷ []), mass_append w skipped (unmarked_object x ∷ []))
mass_of_one_left w skipped x Skip = omega arith
mass_of_one_left w skipped x Stop = omega arith

mass_of_more_left : (w : Serial → ℕ) (policy : Policy) (asked : ℕ) (skipped : List Object) (x : Object) (rest : List Object)
    → ((before after : List Object) → mass w (before ++ after) ≡ mass w (scan_from policy asked before after).freed + mass w (scan_from policy asked before after).items)
    → (case : LruStatus) → mass w (skipped ++ x ∷ rest) ≡ mass w (more_left policy asked skipped x rest case).freed + mass w (more_left policy asked skipped x rest case).items
mass_of_more_left w policy asked skipped x rest h Removed = omega (arith, h skipped rest, mass_append w skipped rest, mass_append w skipped (x ∷ rest))
mass_of_more_left w policy asked skipped x rest h Rotate =
    omega (arith, h skipped (rest ++ unmarked_object x ∷ []), mass_append w skipped (rest ++ unmarked_object x ∷ []), mass_append w rest (unmarked_object x ∷ []), mass_append w skipped (x ∷ rest))
mass_of_more_left w policy asked skipped x rest h Skip =
    omega (arith, h (skipped ++ x ∷ []) rest, mass_append w (skipped ++ x ∷ []) rest, mass_append w skipped (x ∷ []), mass_append w skipped (x ∷ rest))
mass_of_more_left w policy asked skipped x rest h Stop = omega arith

-- a scan keeps what it doesn't free
mass_of_scan : (w : Serial → ℕ) (policy : Policy) (asked : ℕ) (skipped items : List Object) → mass w (skipped ++ items) ≡ mass w (scan_from policy asked skipped items).freed + mass w (scan_from policy asked skipped items).items
unfolding scan_from
mass_of_scan w policy zero skipped items = omega arith
mass_of_scan w policy (suc asked) skipped [] = rw append-nil (omega arith)
mass_of_scan w policy (suc asked) skipped (x ∷ []) = mass_of_one_left w skipped x (case_of policy x)
mass_of_scan w policy (suc asked) skipped (x ∷ y ∷ ys) = mass_of_more_left w policy asked skipped x (y ∷ ys) (mass_of_scan w policy asked) (case_of policy x)

-- the first item that passes a test, and the others
mass_of_found : (w : Serial → ℕ) (test : Object → Bool) (items : List Object) (o : Object) → find test items ≡ Some o → mass w items ≡ w o.serial + mass w (without_first test items)
mass_of_found w test [] o h = absurd (cc)
mass_of_found w test (x ∷ xs) o h = elim (cases_Bool (test x)) [
  | inl e ↦
      let first : x ≡ o = let at = rw e at h in cc in
      rw (e, first) refl
  | inr e ↦
      let at = rw e at h in
      rw e (omega (arith, mass_of_found w test xs o at))
]

-- a Drop keeps what it doesn't take out
mass_of_drop : (w : Serial → ℕ) (items : List Object) (birth : ℕ) (key : List ℕ) (found : Option Object) → named_in birth key items ≡ found
    → mass w items ≡ mass w (dropped_of found) + mass w (after_drop birth key items found)
mass_of_drop w items birth key None h = omega arith
mass_of_drop w items birth key (Some o) h = elim (cases_Bool o.pinned) [
  | inl e ↦ rw e (omega arith)
  | inr e ↦ rw e (omega (arith, mass_of_found w (is_named birth key) items o h))
]

-- the objects that an entry takes in where it moves these
abbrev pub taken_by : List Object → Entry → List Object
taken_by moved (MovedIn child objects) = moved
taken_by moved e = []

-- the objects that an entry gives away
abbrev pub given_by : List Object → Entry → List Object
given_by items Closed = items
given_by items e = []

-- the objects that entries take in, in order
unfoldable pub taken_from : List (List Object) → List Entry → List Object
taken_from moved [] = []
taken_from moved (e ∷ es) = taken_by (first_moved moved) e ++ taken_from (later_moved e moved) es

-- the objects that entries give away, in order
unfoldable pub given_from : List (List Object) → List Object → List Entry → List Object
given_from moved items [] = []
given_from moved items (e ∷ es) = given_by items e ++ given_from (later_moved e moved) (step (first_moved moved) items e) es

mass_of_entry : (w : Serial → ℕ) (moved items : List Object) (e : Entry) → IsOutcome moved items e
    → mass w items + weight w (added_by e) + mass w (taken_by moved e) ≡ mass w (freed_by items e) + mass w (given_by items e) + mass w (step moved items e)
mass_of_entry w moved items (Add by birth added key value) o =
    omega (arith, ap (weight w) (serials_of_added items by birth key value added o), weight_append w (serials_of items) (added_by (Add by birth added key value)))
mass_of_entry w moved items (Look by birth key hit) o = omega (arith, ap (weight w) (serials_of_changed (is_named birth key) marked_object (λ o. refl) items))
mass_of_entry w moved items (Drop by birth key kind) o = omega (arith, mass_of_drop w items birth key (named_in birth key items) refl)
mass_of_entry w moved items (Pin by birth key pinned hit) o = omega (arith, ap (weight w) (serials_of_changed (is_named birth key) (pinned_object pinned) (λ o. refl) items))
mass_of_entry w moved items (Scan worker walk asked policy visits freed stopped) o = omega (arith, mass_of_scan w policy asked [] items)
mass_of_entry w moved items (MovedIn child objects) o = omega (arith, mass_append w moved items)
mass_of_entry w moved items Closed o = omega arith
mass_of_entry w moved items (Drained by objects) o = omega arith

-- what was there, what a journal adds and what it takes in is what it frees, gives away and leaves
pub mass_of_journal : (w : Serial → ℕ) (moved : List (List Object)) (items : List Object) (es : List Entry) → AreOutcomes moved items es
    → mass w items + weight w (added_by_all es) + mass w (taken_from moved es) ≡ mass w (freed_from moved items es) + mass w (given_from moved items es) + mass w (items_from moved items es)
unfolding items_from freed_from taken_from given_from AreOutcomes
mass_of_journal w moved items [] o = omega arith
mass_of_journal w moved items (e ∷ es) o =
    let first = first_moved moved in
    let later = later_moved e moved in
    let after = step first items e in
    omega (
      arith,
      mass_of_entry w first items e o.0,
      mass_of_journal w later after es o.1,
      weight_append w (added_by e) (added_by_all es),
      mass_append w (taken_by first e) (taken_from later es),
      mass_append w (freed_by items e) (freed_from later after es),
      mass_append w (given_by items e) (given_from later after es),
    )
