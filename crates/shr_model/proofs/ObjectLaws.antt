-- SPDX-License-Identifier: GPL-2.0-only
-- The objects of a list under a look, a drop and a pin.
use Rattle.shr_model.proofs.Common.{◌≡◌, ℕ, zero, suc, ◌+◌, ◌<◌, Bool, true, false, ◌||◌, cond, List, [], ◌∷◌, length, get_or, set, refl, sym, ap, ◌∙◌, arith, Some, None, Object, is_named, holds, named_in, change_first, without_first, after_drop, is_some, or_parts, drop_kind_of}
use Rattle.std.proofs.lemmas.List.Quantifiers.{position-Some}
use Rattle.std.proofs.lemmas.Iterator.Adapters.{position_from-zero}
use Rattle.std.specs.List.{list_any, find, remove, position, position_from}
use Rattle.shr_base.specs.declared.journals.DropKind.{DropKind}
use Rattle.shr_base.specs.declared.journals.DropKind.TheVariants.{Dropped, Pinned, Miss}

-- where no item passes none is found
pub find_none : (test : Object → Bool) (items : List Object) → list_any test items ≡ false → find test items ≡ None
find_none test [] none = refl
find_none test (x ∷ xs) none =
    let apart = or_parts (test x) (list_any test xs) none in
    rw apart.0 (find_none test xs apart.1)

-- an item that passes is found if and only if some item passes
pub is_some_find : (test : Object → Bool) (items : List Object) → is_some (find test items) ≡ list_any test items
is_some_find test [] = refl
is_some_find test (x ∷ xs) =
    elim (test x) as (λ b. is_some (cond b (Some x) (find test xs)) ≡ (b || list_any test xs)) [ true ↦ refl | false ↦ is_some_find test xs ]

-- a change keeps the length
pub length_change_first : (test : Object → Bool) (change : Object → Object) (items : List Object) → length (change_first test change items) ≡ length items
length_change_first test change [] = refl
length_change_first test change (x ∷ xs) =
    elim (test x) as (λ b. length (cond b (change x ∷ xs) (x ∷ change_first test change xs)) ≡ suc (length xs))
    [ true ↦ refl | false ↦ ap suc (length_change_first test change xs) ]

-- where no item passes nothing changes
pub change_first_none : (test : Object → Bool) (change : Object → Object) (items : List Object) → list_any test items ≡ false → change_first test change items ≡ items
change_first_none test change [] none = refl
change_first_none test change (x ∷ xs) none =
    let apart = or_parts (test x) (list_any test xs) none in
    rw apart.0 (ap (λ (ys : List Object). x ∷ ys) (change_first_none test change xs apart.1))

-- where no item passes none is taken out
pub without_first_none : (test : Object → Bool) (items : List Object) → list_any test items ≡ false → without_first test items ≡ items
without_first_none test [] none = refl
without_first_none test (x ∷ xs) none =
    let apart = or_parts (test x) (list_any test xs) none in
    rw apart.0 (ap (λ (ys : List Object). x ∷ ys) (without_first_none test xs apart.1))

-- where one passes the list without it is shorter by one
pub length_without_first : (test : Object → Bool) (items : List Object) → list_any test items ≡ true → length (without_first test items) + 1 ≡ length items
length_without_first test [] some = absurd (cc)
length_without_first test (x ∷ xs) some =
    elim (test x) as (λ b. (b || list_any test xs) ≡ true → length (cond b xs (x ∷ without_first test xs)) + 1 ≡ suc (length xs))
    [ true ↦ λ _. omega arith | false ↦ λ later. omega (arith, length_without_first test xs later) ] some

-- the item at an index is the first that passes
pub record IsFirstAt (test : Object → Bool) (items : List Object) (i : ℕ) : Type 0 where
  pub within : i < length items
  pub passes : (d : Object) → test (get_or items i d) ≡ true
  pub earlier : (k : ℕ) (d : Object) → k < i → test (get_or items k d) ≡ false

-- behind an item that does not pass
IsFirstAt_later : (test : Object → Bool) (x : Object) (xs : List Object) (i : ℕ) → IsFirstAt test (x ∷ xs) (suc i) → IsFirstAt test xs i
IsFirstAt_later test x xs i first = record {
  within = omega (arith, first.within);
  passes = first.passes;
  earlier = λ k d h. first.earlier (suc k) d (omega arith);
}

-- the first object that meets a test is changed by its index
pub change_first_at : (test : Object → Bool) (change : Object → Object) (items : List Object) (i : ℕ) (d : Object) → IsFirstAt test items i
    → change_first test change items ≡ set items i (change (get_or items i d))
change_first_at test change [] i d first = absurd (omega (arith, first.within))
change_first_at test change (x ∷ xs) zero d first = let here : test x ≡ true = first.passes d in rw here refl
change_first_at test change (x ∷ xs) (suc i) d first =
    let here : test x ≡ false = first.earlier 0 d (omega arith) in
    rw here (ap (λ (ys : List Object). x ∷ ys) (change_first_at test change xs i d (IsFirstAt_later test x xs i first)))

-- the first object that meets a test is taken out by its index
pub without_first_at : (test : Object → Bool) (items : List Object) (i : ℕ) → IsFirstAt test items i → without_first test items ≡ remove items i
without_first_at test [] i first = absurd (omega (arith, first.within))
without_first_at test (x ∷ xs) zero first = let here : test x ≡ true = first.passes x in rw here refl
without_first_at test (x ∷ xs) (suc i) first =
    let here : test x ≡ false = first.earlier 0 x (omega arith) in
    rw here (ap (λ (ys : List Object). x ∷ ys) (without_first_at test xs i (IsFirstAt_later test x xs i first)))

-- the first object that meets a test is found by its index
pub find_at : (test : Object → Bool) (items : List Object) (i : ℕ) (d : Object) → IsFirstAt test items i → find test items ≡ Some (get_or items i d)
find_at test [] i d first = absurd (omega (arith, first.within))
find_at test (x ∷ xs) zero d first = let here : test x ≡ true = first.passes d in rw here refl
find_at test (x ∷ xs) (suc i) d first =
    let here : test x ≡ false = first.earlier 0 d (omega arith) in
    rw here (find_at test xs i d (IsFirstAt_later test x xs i first))

-- the index that a search gave
pub IsFirstAt_of_position : (test : Object → Bool) (items : List Object) (i : ℕ) → Some i ≡ position test items → IsFirstAt test items i
IsFirstAt_of_position test [] i given = absurd (cc)
IsFirstAt_of_position test (x ∷ xs) i given =
    record {
      within = (position-Some test (x ∷ xs) i x (sym given)).0;
      passes = λ d. (position-Some test (x ∷ xs) i d (sym given)).1;
      earlier = λ k d h. (position-Some test (x ∷ xs) i d (sym given)).2 k h;
    }

-- there is an index if and only if some item passes
is_some_position_from : (test : Object → Bool) (i : ℕ) (items : List Object) → is_some (position_from test i items) ≡ list_any test items
is_some_position_from test i [] = refl
is_some_position_from test i (x ∷ xs) =
    elim (test x) as (λ b. is_some (cond b (Some i) (position_from test (i + 1) xs)) ≡ (b || list_any test xs))
    [ true ↦ refl | false ↦ is_some_position_from test (i + 1) xs ]

-- a search that found none
pub none_of_position : (test : Object → Bool) (items : List Object) → None ≡ position test items → list_any test items ≡ false
none_of_position test items given =
    sym (is_some_position_from test 0 items) ∙ ap is_some (sym (given ∙ position_from-zero test items))

-- whether a drop of this kind takes an object out
abbrev pub takes_out : DropKind → Bool
takes_out Dropped = true
takes_out Pinned = false
takes_out Miss = false

-- where a drop takes an object out the list is shorter by one
pub length_after_drop : (birth : ℕ) (key : List ℕ) (items : List Object)
    → length (after_drop birth key items (named_in birth key items)) + cond (takes_out (drop_kind_of (named_in birth key items))) 1 0 ≡ length items
length_after_drop birth key items = elim (named_in birth key items) as
    (λ o. is_some o ≡ holds birth key items → length (after_drop birth key items o) + cond (takes_out (drop_kind_of o)) 1 0 ≡ length items) [
      | None ↦ λ _. omega arith
      | Some o ↦ elim o.pinned as
          (λ b. true ≡ holds birth key items → length (cond b items (without_first (is_named birth key) items)) + cond (takes_out (cond b Pinned Dropped)) 1 0 ≡ length items) [
            | true ↦ λ _. omega arith
            | false ↦ λ there. length_without_first (is_named birth key) items (sym there)
          ]
    ] (is_some_find (is_named birth key) items)
