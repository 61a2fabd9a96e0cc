-- SPDX-License-Identifier: GPL-2.0-only
-- The law on deferred words: what well formed gives of it, and its fields put together.
use Rattle.shr_audit_tables.proofs.Common.{◌≡◌, ℕ, zero, suc, ◌+◌, ◌<◌, ◌≤◌, ◌⊎◌, inl, inr, List, [], ◌∷◌, length, get_or, Option, Some, None, refl, sym, ap, subst, ◌∙◌, arith, slice_get, AllByRecursion, AllAdjacentBelow, cases_lt, cases_order, slice_get_within, Place, Carry, PlaceAmount, WorkerPart, Script, Report, IsCarryRight, parents_of, IsAmountWell, IsWellFormed, EachItem, AreWordsRight, get_or_from_slice_get, IsDeferredLawful, carries_in, IsBefore, IsCarryBefore, below_of, unmapped}
use Rattle.std.specs.List.Sorted.{IsNonDecreasingBy}
use Rattle.std.proofs.lemmas.List.Sorted.{IsNonDecreasingBy-from_all_adjacent}
use Rattle.shr_base.specs.declared.places.Serial.{Serial}
use Rattle.shr_audit_tables.proofs.Steps.{in_a_row, from_a_row}

then_before : (a b c d e f : ℕ) → IsBefore a b c d → IsBefore c d e f → IsBefore a b e f
then_before a b c d e f (inl x) (inl y) = inl (omega (arith, x, y))
then_before a b c d e f (inl x) (inr (s, y)) = inl (omega (arith, x, s))
then_before a b c d e f (inr (s, x)) (inl y) = inl (omega (arith, s, y))
then_before a b c d e f (inr (s, x)) (inr (t, y)) = inr (omega (arith, s, t), omega (arith, x, y))

not_before_itself : (a b : ℕ) → IsBefore a b a b → ⊥
not_before_itself a b (inl x) = absurd (omega (arith, x))
not_before_itself a b (inr (s, x)) = absurd (omega (arith, x))

-- of carries in their order, a later one of the same command is at a later place
later_place : (xs : List Carry) (d : Carry) → IsNonDecreasingBy (λ (c : Carry). c.by.command) xs → AllAdjacentBelow IsCarryBefore xs (length xs) → (m n : ℕ) → n < m → m < length xs → (get_or xs n d).by.command ≡ (get_or xs m d).by.command
    → IsBefore (get_or xs n d).place.id (get_or xs n d).place.node (get_or xs m d).place.id (get_or xs m d).place.node
later_place xs d rise beside zero n lt within same = absurd (omega (arith, lt))
later_place xs d rise beside (suc k) n lt within same = by_last (cases_lt n k)
    (let e : k + 1 ≡ suc k = omega arith in rw e at (beside k d (omega (arith, within))))
    (λ less. later_place xs d rise beside k n less (omega (arith, within)) (omega (arith, rise n k d (omega (arith, less)) (omega (arith, within)), rise k (suc k) d (omega arith) within, same)))
  where
    by_last : (n < k) ⊎ (k ≤ n) → IsCarryBefore (get_or xs k d) (get_or xs (suc k) d) → (n < k → IsBefore (get_or xs n d).place.id (get_or xs n d).place.node (get_or xs k d).place.id (get_or xs k d).place.node)
        → IsBefore (get_or xs n d).place.id (get_or xs n d).place.node (get_or xs (suc k) d).place.id (get_or xs (suc k) d).place.node
    by_last (inl less) step before =
        let first = rise n k d (omega (arith, less)) (omega (arith, within)) in
        let second = rise k (suc k) d (omega arith) within in
        then_before _ _ (get_or xs k d).place.id (get_or xs k d).place.node _ _ (before less) (step (omega (arith, first, second, same)))
    by_last (inr last) step before =
        let e : n ≡ k = omega (arith, lt, last) in
        subst (λ (j : ℕ). (get_or xs j d).by.command ≡ (get_or xs (suc k) d).by.command → IsBefore (get_or xs j d).place.id (get_or xs j d).place.node (get_or xs (suc k) d).place.id (get_or xs (suc k) d).place.node) (sym e) step same

one_place : (xs : List Carry) → IsNonDecreasingBy (λ (c : Carry). c.by.command) xs → AllAdjacentBelow IsCarryBefore xs (length xs) → (n m : ℕ) (c d : Carry) → slice_get xs n ≡ Some c → slice_get xs m ≡ Some d → c.by ≡ d.by → c.place ≡ d.place → n < m → ⊥
one_place xs rise beside n m c d at there by place less =
    let first = get_or_from_slice_get xs n c c at in
    let second = get_or_from_slice_get xs m d c there in
    let command : (get_or xs n c).by.command ≡ (get_or xs m c).by.command = ap (λ (x : Carry). x.by.command) first ∙ ap (λ (x : Serial). x.command) by ∙ ap (λ (x : Carry). x.by.command) (sym second) in
    let id : (get_or xs n c).place.id ≡ (get_or xs m c).place.id = ap (λ (x : Carry). x.place.id) first ∙ ap (λ (x : Place). x.id) place ∙ ap (λ (x : Carry). x.place.id) (sym second) in
    let node : (get_or xs n c).place.node ≡ (get_or xs m c).place.node = ap (λ (x : Carry). x.place.node) first ∙ ap (λ (x : Place). x.node) place ∙ ap (λ (x : Carry). x.place.node) (sym second) in
    let before = later_place xs c rise beside m n less (slice_get_within xs m d there) command in
    not_before_itself (get_or xs m c).place.id (get_or xs m c).place.node (subst (λ (i : ℕ). IsBefore i (get_or xs m c).place.node (get_or xs m c).place.id (get_or xs m c).place.node) id
    (subst (λ (j : ℕ). IsBefore (get_or xs n c).place.id j (get_or xs m c).place.id (get_or xs m c).place.node) node before))

once_in : (xs : List Carry) → IsNonDecreasingBy (λ (c : Carry). c.by.command) xs → AllAdjacentBelow IsCarryBefore xs (length xs) → (n m : ℕ) (c d : Carry) → slice_get xs n ≡ Some c → slice_get xs m ≡ Some d → c.by ≡ d.by → c.place ≡ d.place → n ≡ m
once_in xs rise beside n m c d at there by place = by_order (cases_order n m)
  where
    by_order : (n ≡ m) ⊎ ((n < m) ⊎ (m < n)) → n ≡ m
    by_order (inl same) = same
    by_order (inr (inl less)) = absurd (one_place xs rise beside n m c d at there by place less)
    by_order (inr (inr more)) = absurd (one_place xs rise beside m n d c there at (sym by) (sym place) more)

once_part : (r : Report) (worker : ℕ) → IsWellFormed r → (o : Option WorkerPart) → slice_get r.workers.items worker ≡ o → (n m : ℕ) (c d : Carry) → slice_get (carries_in o) n ≡ Some c → slice_get (carries_in o) m ≡ Some d → c.by ≡ d.by → c.place ≡ d.place → n ≡ m
once_part r worker well None e n m c d at there by place = absurd (let none = slice_get_within [] n c at in omega (arith, none))
once_part r worker well (Some part) e n m c d at there by place =
    let p = well.parts worker part e in
    once_in part.carries.items (IsNonDecreasingBy-from_all_adjacent (λ (c : Carry). c.by.command) part.carries.items (below_of (λ (x y : Carry). x.by.command ≤ y.by.command) part.carries.items (unmapped (λ (c : Carry). c.by.command) (λ n m. n ≤ m) part.carries.items p.carry_order)))
    p.carry_places n m c d at there by place

all_shown : (xs : List PlaceAmount) → AllByRecursion IsAmountWell xs → AllByRecursion (λ (x : PlaceAmount). 0 < x.amount) xs
all_shown [] h = tt
all_shown (x ∷ xs) h = (let some = h.0.some in omega (arith, some), all_shown xs h.1)

-- the law from the two fields that well formed doesn't give
pub deferred_of : (s : Script) (r : Report) (parents : List ℕ) → parents ≡ parents_of s → IsWellFormed r → EachItem (λ (part : WorkerPart). EachItem (IsCarryRight s r) part.carries.items) r.workers.items → AreWordsRight parents r → IsDeferredLawful s r
deferred_of s r parents e well carries words = record {
  words = subst (λ (ps : List ℕ). AreWordsRight ps r) e words;
  shown = all_shown r.deferred.items well.deferred;
  carries = in_a_row (IsCarryRight s r) (λ (part : WorkerPart). part.carries.items) r.workers.items carries;
  once = λ worker. once_part r worker well (slice_get r.workers.items worker) refl;
}

-- these two fields from the law
pub carries_of_law : (s : Script) (r : Report) → IsDeferredLawful s r → EachItem (λ (part : WorkerPart). EachItem (IsCarryRight s r) part.carries.items) r.workers.items
carries_of_law s r law = from_a_row (IsCarryRight s r) (λ (part : WorkerPart). part.carries.items) r.workers.items law.carries

pub words_of_law : (s : Script) (r : Report) (parents : List ℕ) → parents ≡ parents_of s → IsDeferredLawful s r → AreWordsRight parents r
words_of_law s r parents e law = subst (λ (ps : List ℕ). AreWordsRight ps r) (sym e) law.words
