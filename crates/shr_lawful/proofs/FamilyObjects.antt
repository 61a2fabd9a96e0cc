-- SPDX-License-Identifier: GPL-2.0-only
-- What holds of each object that is added holds of each that is listed or freed, and what journals free, entry by entry.
use Rattle.shr_lawful.proofs.Common.{◌≡◌, ℕ, zero, suc, Bool, true, false, not, cond, List, [], ◌∷◌, ◌++◌, length, length-append, take, sym, refl, ap, ◌∙◌, arith, eqb, append_assoc, Some, None, Option, find, AllByRecursion, enumerate_from, take_at, Object, Policy, Place, Entry, Add, Look, Drop, Pin, Scan, MovedIn, Closed, Drained, is_child, is_named, holds, named_in, fresh, marked_object, unmarked_object, pinned_object, step, dropped_of, freed_by, first_moved, later_moved, is_closing, at_group, Family, without_child, items_given, lists_moved_at, items_at, before_closed, each_append, total, total-append, take_while, prefix_len, change_first, without_first, items_from_push}
use Rattle.shr_model.proofs.ItemsLaws.{moved_from_push}
use Rattle.shr_base.specs.declared.objects.LruStatus.{LruStatus}
use Rattle.shr_base.specs.declared.objects.LruStatus.TheVariants.{Removed, Rotate, Skip, Stop}
use Rattle.shr_model.specs.Scan.{case_of, Scanned, scan_ends, after_visit, after_freeing, scan_from}
use Rattle.shr_model.specs.Items.{after_drop, items_from, freed_from}
use Rattle.shr_model.specs.MovedItems.{moved_from}
use Rattle.shr_model.specs.Families.{lists_moved, items_within}

module _ (P : Object → Type 0) (marks : (o : Object) → P o → P (marked_object o)) (unmarks : (o : Object) → P o → P (unmarked_object o)) (pins : (pinned : Bool) (o : Object) → P o → P (pinned_object pinned o)) where
  abbrev All : List Object → Type 0
  All items = AllByRecursion P items

  -- what a scan leaves and frees
  record AreKept (scanned : Scanned) : Type 0 where
    items : All scanned.items
    freed : All scanned.freed

  one_case : (skipped : List Object) (x : Object) (c : LruStatus) → All skipped → P x → AreKept (elim c as (λ _. Scanned) [
    | Removed ↦ after_freeing x (scan_ends skipped)
    | Rotate ↦ after_visit (scan_ends (skipped ++ unmarked_object x ∷ []))
    | Skip ↦ after_visit (scan_ends (skipped ++ x ∷ []))
    | Stop ↦ record { items = skipped ++ x ∷ []; freed = []; visits = 1; stopped = true }
  ])
  one_case skipped x Removed a b = record { items = a; freed = (b, tt) }
  one_case skipped x Rotate a b = record { items = each_append P skipped (unmarked_object x ∷ []) a (unmarks x b, tt); freed = tt }
  one_case skipped x Skip a b = record { items = each_append P skipped (x ∷ []) a (b, tt); freed = tt }
  one_case skipped x Stop a b = record { items = each_append P skipped (x ∷ []) a (b, tt); freed = tt }

  more_case : (policy : Policy) (asked : ℕ) (skipped : List Object) (x : Object) (rest : List Object) (c : LruStatus)
      → ((before after : List Object) → All before → All after → AreKept (scan_from policy asked before after)) → All skipped → P x → All rest → AreKept (elim c as (λ _. Scanned) [
        | Removed ↦ after_freeing x (scan_from policy asked skipped rest)
        | Rotate ↦ after_visit (scan_from policy asked skipped (rest ++ unmarked_object x ∷ []))
        | Skip ↦ after_visit (scan_from policy asked (skipped ++ x ∷ []) rest)
        | Stop ↦ record { items = skipped ++ x ∷ rest; freed = []; visits = 1; stopped = true }
      ])
  more_case policy asked skipped x rest Removed h a b c = let t = h skipped rest a c in record { items = t.items; freed = (b, t.freed) }
  more_case policy asked skipped x rest Rotate h a b c = let t = h skipped (rest ++ unmarked_object x ∷ []) a (each_append P rest (unmarked_object x ∷ []) c (unmarks x b, tt)) in record { items = t.items; freed = t.freed }
  more_case policy asked skipped x rest Skip h a b c = let t = h (skipped ++ x ∷ []) rest (each_append P skipped (x ∷ []) a (b, tt)) c in record { items = t.items; freed = t.freed }
  more_case policy asked skipped x rest Stop h a b c = record { items = each_append P skipped (x ∷ rest) a (b, c); freed = tt }

  scan_keeps : (policy : Policy) (asked : ℕ) (skipped items : List Object) → All skipped → All items → AreKept (scan_from policy asked skipped items)
  unfolding scan_from
  scan_keeps policy zero skipped items a b = record { items = each_append P skipped items a b; freed = tt }
  scan_keeps policy (suc asked) skipped [] a b = record { items = a; freed = tt }
  scan_keeps policy (suc asked) skipped (x ∷ []) a b = one_case skipped x (case_of policy x) a b.0
  scan_keeps policy (suc asked) skipped (x ∷ y ∷ ys) a b = more_case policy asked skipped x (y ∷ ys) (case_of policy x) (scan_keeps policy asked) a b.0 b.1

  -- what a step leaves, and what it frees
  changed : (test : Object → Bool) (change : Object → Object) → ((o : Object) → P o → P (change o)) → (items : List Object) → All items → All (change_first test change items)
  changed test change f [] h = tt
  changed test change f (x ∷ xs) h = (elim (test x) as (λ (b : Bool). All (change_first test change xs) → All (cond b (change x ∷ xs) (x ∷ change_first test change xs))) [ true ↦ λ rest. (f x h.0, h.1) | false ↦ λ rest. (h.0, rest) ]) (changed test change f xs h.1)

  out_of : (test : Object → Bool) (items : List Object) → All items → All (without_first test items)
  out_of test [] h = tt
  out_of test (x ∷ xs) h = (elim (test x) as (λ (b : Bool). All (without_first test xs) → All (cond b xs (x ∷ without_first test xs))) [ true ↦ λ rest. h.1 | false ↦ λ rest. (h.0, rest) ]) (out_of test xs h.1)

  all_cond : (b : Bool) (xs ys : List Object) → All xs → All ys → All (cond b xs ys)
  all_cond true xs ys a c = a
  all_cond false xs ys a c = c

  drop_keeps : (birth : ℕ) (key : List ℕ) (items : List Object) (o : Option Object) → All items → All (after_drop birth key items o)
  drop_keeps birth key items None h = h
  drop_keeps birth key items (Some o) h = all_cond o.pinned items (without_first (is_named birth key) items) h (out_of (is_named birth key) items h)

  found_is : (test : Object → Bool) (items : List Object) → All items → All (dropped_of (find test items))
  found_is test [] h = tt
  found_is test (x ∷ xs) h = (elim (test x) as (λ (b : Bool). All (dropped_of (find test xs)) → All (dropped_of (cond b (Some x) (find test xs)))) [ true ↦ λ rest. all_cond x.pinned [] (x ∷ []) tt (h.0, tt) | false ↦ λ rest. rest ]) (found_is test xs h.1)

  -- an Add's object is so
  abbrev pub AddIs : Entry → Type 0
  AddIs (Add by birth added key value) = P (fresh by birth key value)
  AddIs e = Unit {0}

  step_keeps : (moved items : List Object) (e : Entry) → AddIs e → All moved → All items → All (step moved items e)
  step_keeps moved items (Add by birth added key value) own a b = all_cond (holds birth key items) items (items ++ fresh by birth key value ∷ []) b (each_append P items (fresh by birth key value ∷ []) b (own, tt))
  step_keeps moved items (Look by birth key hit) own a b = changed (is_named birth key) marked_object marks items b
  step_keeps moved items (Drop by birth key kind) own a b = drop_keeps birth key items (named_in birth key items) b
  step_keeps moved items (Pin by birth key pinned hit) own a b = changed (is_named birth key) (pinned_object pinned) (pins pinned) items b
  step_keeps moved items (Scan worker walk asked policy visits freed stopped) own a b = (scan_keeps policy asked [] items tt b).items
  step_keeps moved items (MovedIn child objects) own a b = each_append P moved items a b
  step_keeps moved items Closed own a b = tt
  step_keeps moved items (Drained by objects) own a b = tt

  pub frees_kept : (items : List Object) (e : Entry) → All items → All (freed_by items e)
  frees_kept items (Drop by birth key kind) b = found_is (is_named birth key) items b
  frees_kept items (Scan worker walk asked policy visits freed stopped) b = (scan_keeps policy asked [] items tt b).freed
  frees_kept items (Drained by objects) b = b
  frees_kept items e b = tt

  abbrev AllLists : List (List Object) → Type 0
  AllLists lists = AllByRecursion All lists

  first_all : (moved : List (List Object)) → AllLists moved → All (first_moved moved)
  first_all [] h = tt
  first_all (m ∷ ms) h = h.0

  later_all : (e : Entry) (moved : List (List Object)) → AllLists moved → AllLists (later_moved e moved)
  later_all (MovedIn child objects) (m ∷ ms) h = h.1
  later_all e ms h = h

  items_kept : (moved : List (List Object)) (items : List Object) (es : List Entry) → AllLists moved → All items → AllByRecursion AddIs es → All (items_from moved items es)
  unfolding items_from
  items_kept moved items [] a b own = b
  items_kept moved items (e ∷ es) a b own = items_kept (later_moved e moved) (step (first_moved moved) items e) es (later_all e moved a) (step_keeps (first_moved moved) items e own.0 (first_all moved a) b) own.1

  lists_kept : (took : ℕ → List Object) (es : List Entry) → ((c : ℕ) → All (took c)) → AllLists (lists_moved took es)
  unfolding lists_moved
  lists_kept took [] h = tt
  lists_kept took (MovedIn child objects ∷ es) h = (h child, lists_kept (without_child child took) es (λ c. all_cond (eqb c child) [] (took c) tt (h c)))
  lists_kept took (e ∷ es) h = lists_kept took es h

  take_kept : (n : ℕ) (es : List Entry) → AllByRecursion AddIs es → AllByRecursion AddIs (take n es)
  take_kept zero es h = tt
  take_kept (suc n) [] h = tt
  take_kept (suc n) (e ∷ es) h = (h.0, take_kept n es h.1)

  while_kept : (p : Entry → Bool) (es : List Entry) → AllByRecursion AddIs es → AllByRecursion AddIs (take_while p es)
  while_kept p es h = take_kept (prefix_len p es) es h

  module _ (parents : List ℕ) (family : Family) (own : (place : Place) → AllByRecursion AddIs (family place)) where
    within_kept : (levels : ℕ) (place : Place) (es : List Entry) → AllByRecursion AddIs es → All (items_within levels parents family place es)
    unfolding items_within
    within_kept zero place es h = tt
    within_kept (suc levels) place es h = items_kept (lists_moved (λ c. cond (is_child parents place.group c) (items_within levels parents family (at_group place c) (before_closed (family (at_group place c)))) []) es) [] es
        (lists_kept (λ c. cond (is_child parents place.group c) (items_within levels parents family (at_group place c) (before_closed (family (at_group place c)))) []) es
        (λ c. all_cond (is_child parents place.group c) (items_within levels parents family (at_group place c) (before_closed (family (at_group place c)))) []
        (within_kept levels (at_group place c) (before_closed (family (at_group place c))) (while_kept (λ e. not (is_closing e)) (family (at_group place c)) (own (at_group place c)))) tt)) tt h

    -- each object that a place has after so many entries is so
    pub items_at_kept : (place : Place) (n : ℕ) → All (items_at parents family place n)
    items_at_kept place n = items_kept (lists_moved_at parents family place) [] (take n (family place)) (lists_kept (items_given parents family place) (family place)
        (λ c. all_cond (is_child parents place.group c) (items_within (length parents) parents family (at_group place c) (before_closed (family (at_group place c)))) []
        (within_kept (length parents) (at_group place c) (before_closed (family (at_group place c))) (while_kept (λ e. not (is_closing e)) (family (at_group place c)) (own (at_group place c)))) tt)) tt (take_kept n (family place) (own place))

-- ---- what a journal frees, entry by entry
module _ (h : Object → ℕ) (moved : List (List Object)) (all : List Entry) where
  freed_sum_from : (before es : List Entry) → all ≡ before ++ es → total h (freed_from (moved_from moved before) (items_from moved [] before) es)
      ≡ total (λ (e : ℕ × Entry). total h (freed_by (items_from moved [] (take e.0 all)) e.1)) (enumerate_from (length before) es)
  unfolding freed_from
  freed_sum_from before [] e = refl
  freed_sum_from before (x ∷ es) e = omega (
    arith,
    total-append h (freed_by (items_from moved [] before) x) (freed_from (later_moved x (moved_from moved before)) (step (first_moved (moved_from moved before)) (items_from moved [] before) x) es),
    ap (λ (l : List Entry). total h (freed_by (items_from moved [] l) x)) (sym (ap (take (length before)) e ∙ take_at before (x ∷ es) (length before) refl)),
    ap (λ (m : List (List Object)). total h (freed_from m (step (first_moved (moved_from moved before)) (items_from moved [] before) x) es)) (sym (moved_from_push moved before x)),
    ap (λ (i : List Object). total h (freed_from (moved_from moved (before ++ x ∷ [])) i es)) (sym (items_from_push moved [] before x)),
    freed_sum_from (before ++ x ∷ []) es (e ∙ sym (append_assoc before (x ∷ []) es)),
    ap (λ (n : ℕ). total (λ (p : ℕ × Entry). total h (freed_by (items_from moved [] (take p.0 all)) p.1)) (enumerate_from n es)) (length-append before (x ∷ [])),
  )

-- what the journal of a place frees
pub freed_sum : (h : Object → ℕ) (parents : List ℕ) (family : Family) (place : Place) → total h (freed_from (lists_moved_at parents family place) [] (family place))
    ≡ total (λ (e : ℕ × Entry). total h (freed_by (items_at parents family place e.0) e.1)) (enumerate_from 0 (family place))
unfolding items_from moved_from
freed_sum h parents family place = freed_sum_from h (lists_moved_at parents family place) (family place) [] (family place) refl
