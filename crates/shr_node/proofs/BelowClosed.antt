-- SPDX-License-Identifier: GPL-2.0-only
-- What is below a closed list is closed: no Closed is made before the list of each child was moved
-- in, and a child's list has its Closed exactly where its parent's has that MovedIn.
use Rattle.shr_node.proofs.Common.{◌≡◌, ℕ, zero, suc, ◌<◌, true, List, length, take, refl, subst, ⊎_elim, arith, dite, ℕ_discrete, Place, Closed, at_group, IsTree, parent_of, IsAtOrAbove, IsAtOrAbove-le, child_again, Has_from_Contains, Contains_from_Has, moved_in, is_closed, closed_at}
use Rattle.shr_model.specs.Families.{Family, IsLegal, IsPaired}
use Rattle.shr_model.proofs.FamilyLaws.{taken_has}
use Rattle.shr_node.proofs.Climbing.{above_parent}

module _ (parents : List ℕ) (tree : IsTree parents) (family : Family) (paired : IsPaired parents family) (legal : (place : Place) → IsLegal parents family place) where
  -- the list of each child of a closed one is closed
  child_closed : (place : Place) → 0 < place.group → place.group < length parents → is_closed (family (at_group place (parent_of parents place.group))) ≡ true → is_closed (family place) ≡ true
  child_closed place low there closed = let above : Place = at_group place (parent_of parents place.group) in let at = closed_at (family above) closed in
      let moved = ((legal above).stands at.0 Closed at.1).allowed.1 place.group (child_again parents (parent_of parents place.group) place.group (record { above = low; there = there; parent = refl })) in
      (paired place low there).1 (Contains_from_Has (moved_in (family above)) place.group (taken_has (family above) at.0 place.group (Has_from_Contains (moved_in (take at.0 (family above))) place.group moved)))

  closed_within : (fuel : ℕ) (place : Place) (above : ℕ) → place.group < fuel → place.group < length parents → IsAtOrAbove parents above place.group → is_closed (family (at_group place above)) ≡ true → is_closed (family place) ≡ true
  closed_within zero place above few there on closed = absurd (omega (arith, few))
  closed_within (suc fuel) place above few there on closed = dite (ℕ_discrete above place.group)
      (λ same. subst (λ (g : ℕ). is_closed (family (at_group place g)) ≡ true) same closed)
      (λ other. let le = IsAtOrAbove-le parents tree above place.group there on in let low : 0 < place.group = omega (arith, le, other) in let lower = tree.lower place.group low there in
      child_closed place low there (closed_within fuel (at_group place (parent_of parents place.group)) above (omega (arith, lower, few)) (omega (arith, lower, there)) (⊎_elim (λ same. absurd (omega (arith, same, other))) (λ up. up) (above_parent parents tree above place.group low there on)) closed))

  -- and so is each list below a closed one
  pub closed_below : (place : Place) (above : ℕ) → place.group < length parents → IsAtOrAbove parents above place.group → is_closed (family (at_group place above)) ≡ true → is_closed (family place) ≡ true
  closed_below place above there on closed = closed_within (suc place.group) place above (omega arith) there on closed
