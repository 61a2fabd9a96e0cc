-- SPDX-License-Identifier: GPL-2.0-only
-- The order of places by id, node and group.
use Rattle.shr_laws.proofs.Common.{◌≡◌, ◌<◌, ◌⊎◌, inl, inr, sym, subst, arith, Place, IsPlaceBefore, IsPlaceUpTo, cases_order, place_number}

-- of two places one stands before the other at most
before_one : (p q : Place) → IsPlaceBefore p q → IsPlaceBefore q p → ⊥
before_one p q (inl a) (inl b) = absurd (omega (arith, a, b))
before_one p q (inl a) (inr (id, b)) = absurd (omega (arith, a, id))
before_one p q (inr (id, a)) (inl b) = absurd (omega (arith, b, id))
before_one p q (inr (id, inl a)) (inr (id', inl b)) = absurd (omega (arith, a, b))
before_one p q (inr (id, inl a)) (inr (id', inr (node, b))) = absurd (omega (arith, a, node))
before_one p q (inr (id, inr (node, a))) (inr (id', inl b)) = absurd (omega (arith, b, node))
before_one p q (inr (id, inr (node, a))) (inr (id', inr (node', b))) = absurd (omega (arith, a, b))

-- none stands before itself
pub not_before_itself : (p : Place) → IsPlaceBefore p p → ⊥
not_before_itself p h = before_one p p h h

-- one that another stands before isn't up to it
pub not_up_to : (p q : Place) → IsPlaceBefore q p → IsPlaceUpTo p q → ⊥
not_up_to p q later (inl before) = before_one p q before later
not_up_to p q later (inr same) = not_before_itself p (subst (λ (x : Place). IsPlaceBefore x p) (sym same) later)

-- a place such as the tables have, whose number is no other's
pub record IsLow (p : Place) : Type 0 where
  pub node : p.node < 4
  pub group : p.group < 256

-- of these the one with the lower number stands before
pub before_by_number : (p q : Place) → IsLow p → IsLow q → place_number p < place_number q → IsPlaceBefore p q
before_by_number p q a b low = by_id (cases_order p.id q.id)
  where
    by_node : p.id ≡ q.id → (p.node ≡ q.node) ⊎ ((p.node < q.node) ⊎ (q.node < p.node)) → IsPlaceBefore p q
    by_node id (inl node) = inr (id, inr (node, omega (arith, low, id, node)))
    by_node id (inr (inl less)) = inr (id, inl less)
    by_node id (inr (inr more)) = absurd (let pg = a.group in let qg = b.group in omega (arith, low, id, more, pg, qg))

    by_id : (p.id ≡ q.id) ⊎ ((p.id < q.id) ⊎ (q.id < p.id)) → IsPlaceBefore p q
    by_id (inl id) = by_node id (cases_order p.node q.node)
    by_id (inr (inl less)) = inl less
    by_id (inr (inr more)) = absurd (let pg = a.group in let qg = b.group in let pn = a.node in let qn = b.node in omega (arith, low, more, pg, qg, pn, qn))
