-- SPDX-License-Identifier: GPL-2.0-only
-- Lists in the order of their places.
use Rattle.shr_audit_replies.proofs.OnceCommon.{◌≡◌, ℕ, zero, suc, ◌+◌, ◌<◌, List, length, get_or, sym, subst, ◌∙◌, inl, inr, arith, Place, PlaceEnd, AreInOrder, ◌-◌}
use Rattle.shr_laws.specs.WellFormed.{IsPlaceBefore, IsPlaceUpTo}
use Rattle.shr_audit_case.proofs.Order.{before_up_to}

not_itself : (p : Place) → IsPlaceBefore p p → ⊥
not_itself p (inl a) = absurd (omega arith)
not_itself p (inr (id, inl a)) = absurd (omega arith)
not_itself p (inr (id, inr (node, a))) = absurd (omega arith)

-- behind one that stands before the next, all stand behind it
behind : (ends : List PlaceEnd) → AreInOrder ends → (d : PlaceEnd) (place : Place) (i k : ℕ) → i + k < length ends → IsPlaceBefore place (get_or ends i d).place → IsPlaceBefore place (get_or ends (i + k) d).place
behind ends order d place i zero lt before = let same : i ≡ i + 0 = omega arith in subst (λ (n : ℕ). IsPlaceBefore place (get_or ends n d).place) same before
behind ends order d place i (suc k) lt before =
    let below : i + k < length ends = omega arith in
    let next : i + k + 1 < length ends = omega arith in
    let same : i + k + 1 ≡ i + suc k = omega arith in
    subst (λ (n : ℕ). IsPlaceBefore place (get_or ends n d).place) same
    (before_up_to place (get_or ends (i + k) d).place (get_or ends (i + k + 1) d).place (behind ends order d place i k below before) (order (i + k) d next))

-- a place that isn't printed again at once isn't printed again
pub not_again : (ends : List PlaceEnd) → AreInOrder ends → (d : PlaceEnd) (place : Place) (k j : ℕ) → (get_or ends k d).place ≡ place → ((get_or ends (k + 1) d).place ≡ place → ⊥)
    → k < j → j < length ends → (get_or ends j d).place ≡ place → ⊥
not_again ends order d place k j here next lt there same = by (order k d (omega (arith, lt, there)))
  where
    by : IsPlaceUpTo (get_or ends k d).place (get_or ends (k + 1) d).place → ⊥
    by (inr e) = next (sym e ∙ here)
    by (inl before) =
        let up = subst (λ (x : Place). IsPlaceBefore x (get_or ends (k + 1) d).place) here before in
        let e : k + 1 + (j - (k + 1)) ≡ j = omega (arith, lt) in
        let below : k + 1 + (j - (k + 1)) < length ends = omega (arith, lt, there) in
        let far = subst (λ (n : ℕ). IsPlaceBefore place (get_or ends n d).place) e (behind ends order d place (k + 1) (j - (k + 1)) below up) in
        not_itself place (subst (λ (x : Place). IsPlaceBefore place x) same far)
