-- SPDX-License-Identifier: GPL-2.0-only
-- Journals of pools, entry by entry, and journals that stand next to one another.
use Rattle.shr_audit_pools.proofs.Common.{◌≡◌, ◌≢◌, ◌⊎◌, inl, inr, ℕ, zero, suc, ◌+◌, ◌-◌, ◌<◌, Bool, false, List, [], ◌∷◌, ◌++◌, length, get_or, take, drop, Some, refl, sym, ap, subst, ◌∙◌, arith, slice_get, Decides, cases_order, drop_more, take-append-drop, take_more, slice_get_within, slice_get-get_or, UnitsEnd, PlainEntry, Place, Script, IsPlainJournal, free_of, Report, AreUnitsRight, IsPlaceUpTo, IsWellFormed, units_place, EachItem, each_in, lists_of, AreJournalsRight, append_assoc, fold-append, IsPlainEntry, free_after, IsPlaceBefore, Adjacent, all_of, clash, AreApart}
use Rattle.shr_model.specs.Follow.{Follow}
use Rattle.shr_audit_case.proofs.Order.{not_itself, before_before}

-- ---- entries behind others

follow_more : (before es : List PlainEntry) (e : PlainEntry) → Follow IsPlainEntry before es → IsPlainEntry (before ++ es) e → Follow IsPlainEntry before (es ++ e ∷ [])
follow_more before [] e h here = (subst (λ (xs : List PlainEntry). IsPlainEntry xs e) (none before) here, tt)
  where
    none : (xs : List PlainEntry) → xs ++ [] ≡ xs
    none [] = refl
    none (x ∷ xs) = ap (λ (ys : List PlainEntry). x ∷ ys) (none xs)
follow_more before (x ∷ xs) e h here = (h.0, follow_more (before ++ x ∷ []) xs e h.1 (subst (λ (ys : List PlainEntry). IsPlainEntry ys e) (sym (append_assoc before (x ∷ []) xs)) here))

follow_at : (before es rest : List PlainEntry) (e : PlainEntry) → Follow IsPlainEntry before (es ++ e ∷ rest) → IsPlainEntry (before ++ es) e
follow_at before [] rest e h = subst (λ (xs : List PlainEntry). IsPlainEntry xs e) (sym (none before)) h.0
  where
    none : (xs : List PlainEntry) → xs ++ [] ≡ xs
    none [] = refl
    none (x ∷ xs) = ap (λ (ys : List PlainEntry). x ∷ ys) (none xs)
follow_at before (x ∷ xs) rest e h = subst (λ (ys : List PlainEntry). IsPlainEntry ys e) (append_assoc before (x ∷ []) xs) (follow_at (before ++ x ∷ []) xs rest e h.1)

-- one entry more
pub journal_more : (entries : List PlainEntry) (i : ℕ) (d : PlainEntry) → i < length entries → IsPlainJournal (take i entries) → IsPlainEntry (take i entries) (get_or entries i d) → IsPlainJournal (take (i + 1) entries)
journal_more entries i d lt h here = subst IsPlainJournal (sym (take_more entries i d lt)) (follow_more [] (take i entries) (get_or entries i d) h here)

pub free_more : (entries : List PlainEntry) (i : ℕ) (d : PlainEntry) (free next : ℕ) → i < length entries → free ≡ free_of (take i entries) → next ≡ free_after free (get_or entries i d) → next ≡ free_of (take (i + 1) entries)
free_more entries i d free next lt before then =
    then ∙ (ap (λ (n : ℕ). free_after n (get_or entries i d)) before ∙ sym (ap free_of (take_more entries i d lt) ∙ fold-append free_after 0 (take i entries) (get_or entries i d ∷ [])))

split : (entries : List PlainEntry) (i : ℕ) (d : PlainEntry) → i < length entries → entries ≡ take i entries ++ get_or entries i d ∷ drop (i + 1) entries
split entries i d lt = sym (take-append-drop i entries) ∙ ap (λ (es : List PlainEntry). take i entries ++ es) (drop_more entries i d lt)

-- an entry that may not stand there
pub journal_broken : (entries : List PlainEntry) (i : ℕ) (d : PlainEntry) → i < length entries → (IsPlainEntry (take i entries) (get_or entries i d) → ⊥) → IsPlainJournal entries → ⊥
journal_broken entries i d lt wrong h = wrong (follow_at [] (take i entries) (drop (i + 1) entries) (get_or entries i d) (subst IsPlainJournal (split entries i d lt) h))

-- ---- journals that stand next to one another

strict : (p q : Place) → IsPlaceUpTo p q → p ≢ q → IsPlaceBefore p q
strict p q (inl b) apart = b
strict p q (inr same) apart = absurd (apart same)

-- the first of two stands before the other, if each stands strictly before the next
rising : (ends : List UnitsEnd) → Adjacent (λ u v. IsPlaceBefore (units_place u) (units_place v)) ends → (i k : ℕ) (u v : UnitsEnd) → slice_get ends i ≡ Some u → slice_get ends (i + suc k) ≡ Some v → IsPlaceBefore (units_place u) (units_place v)
rising ends up i zero u v at there = up i u v at (ap (slice_get ends) (let e : i + 1 ≡ i + suc zero = omega arith in e) ∙ there)
rising ends up i (suc k) u v at there =
    let lt = slice_get_within ends (i + suc (suc k)) v there in
    let mid = get_or ends (i + suc k) u in
    let mid_at : slice_get ends (i + suc k) ≡ Some mid = slice_get-get_or ends (i + suc k) u (omega (arith, lt)) in
    before_before (units_place u) (units_place mid) (units_place v) (rising ends up i k u mid at mid_at)
    (up (i + suc k) mid v mid_at (ap (slice_get ends) (let e : i + suc k + 1 ≡ i + suc (suc k) = omega arith in e) ∙ there))

pub once_from : (ends : List UnitsEnd) → Adjacent (λ u v. IsPlaceUpTo (units_place u) (units_place v)) ends → AreApart ends
    → (i j : ℕ) (u v : UnitsEnd) → slice_get ends i ≡ Some u → slice_get ends j ≡ Some v → units_place u ≡ units_place v → i ≡ j
once_from ends order apart i j u v at there same = by (cases_order i j)
  where
    up : Adjacent (λ x y. IsPlaceBefore (units_place x) (units_place y)) ends
    up n x y a b = strict (units_place x) (units_place y) (order n x y a b) (apart n x y a b)

    ahead : (k l : ℕ) (x y : UnitsEnd) → k < l → slice_get ends k ≡ Some x → slice_get ends l ≡ Some y → units_place x ≡ units_place y → ⊥
    ahead k l x y lt a b e =
        let far : l ≡ k + suc (l - (k + 1)) = omega (arith, lt) in
        not_itself (units_place x) (units_place y) (rising ends up k (l - (k + 1)) x y a (ap (slice_get ends) (sym far) ∙ b)) e

    by : (i ≡ j) ⊎ ((i < j) ⊎ (j < i)) → i ≡ j
    by (inl e) = e
    by (inr (inl lt)) = absurd (ahead i j u v lt at there same)
    by (inr (inr lt)) = absurd (ahead j i v u lt there at (sym same))

pub apart_from : (ends : List UnitsEnd) → ((i j : ℕ) (u v : UnitsEnd) → slice_get ends i ≡ Some u → slice_get ends j ≡ Some v → units_place u ≡ units_place v → i ≡ j) → AreApart ends
apart_from ends once n u v at there same = let e = once n (n + 1) u v at there same in omega (arith, e)

-- the two fields
pub journals_decided : (s : Script) (r : Report) (ends : List UnitsEnd) (b : Bool) → IsWellFormed r → ends ≡ r.units.items → EachItem (AreUnitsRight s) ends → Decides b (AreApart ends) → Decides b (AreJournalsRight s r)
journals_decided s r ends b well same rights aparts = (
  λ u. record {
    units = all_of (AreUnitsRight s) r.units.items (subst (EachItem (AreUnitsRight s)) same rights);
    once = once_from r.units.items (lists_of r well).1.1.1 (subst AreApart same (aparts.0 u));
  },
  λ h. aparts.1 (subst AreApart (sym same) (apart_from r.units.items h.once)),
)

pub journals_wrong : (s : Script) (r : Report) (ends : List UnitsEnd) (a : Bool) → ends ≡ r.units.items → Decides a (EachItem (AreUnitsRight s) ends) → a ≡ false → Decides a (AreJournalsRight s r)
journals_wrong s r ends a same rights f = (
  λ t. absurd (clash a t f),
  λ h. rights.1 (subst (EachItem (AreUnitsRight s)) (sym same) (each_in (AreUnitsRight s) r.units.items h.units)),
)
