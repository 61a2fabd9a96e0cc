-- SPDX-License-Identifier: GPL-2.0-only
-- Groups above others, also above one that isn't there, whose parent is the root.
use Rattle.shr_audit_causes.proofs.OfflinesCommon.{◌≡◌, ◌≢◌, ℕ, ◌<◌, List, ◌∷◌, length, sym, subst, inl, inr, arith, ◌==◌, cases_lt, get_or_past, IsTree, parent_of, IsAtOrAbove-le, IsAtOrAbove-refl}
use Rattle.shr_model.specs.Groups.{IsAtOrAbove, path_of}
use Rattle.shr_model.proofs.GroupsLaws.{path_of-below, path_of-past}
use Rattle.shr_model.proofs.Members.{Contains_from_Has, Has, Has_from_Contains}

module _ (parents : List ℕ) (tree : IsTree parents) (g : ℕ) (below : 0 < g) where
  path_up : path_of parents g ≡ g ∷ path_of parents (parent_of parents g)
  path_up = elim (cases_lt g (length parents)) [
    | inl there ↦ path_of-below parents tree g below there
    | inr past ↦ path_of-past parents g below past
  ]

  pub parent_lower : parent_of parents g < g
  parent_lower = elim (cases_lt g (length parents)) [
    | inl there ↦ tree.lower g below there
    | inr past ↦ (let none = get_or_past parents g 0 past in omega (arith, none, below))
  ]

  pub parent_there : parent_of parents g < length parents
  parent_there = elim (cases_lt g (length parents)) [
    | inl there ↦ (let lower = parent_lower in omega (arith, lower, there))
    | inr past ↦ (let none = get_or_past parents g 0 past in let root = tree.has_root in omega (arith, none, root))
  ]

  -- what is above a group is at its parent or above that
  pub above_parent : (h : ℕ) → h ≢ g → IsAtOrAbove parents h g → IsAtOrAbove parents h (parent_of parents g)
  above_parent h other above = elim (subst (λ (xs : List ℕ). Has xs h) path_up (Has_from_Contains (path_of parents g) h above)) as (λ _. IsAtOrAbove parents h (parent_of parents g)) [
    | inl same ↦ absurd (other (sym same))
    | inr on ↦ Contains_from_Has (path_of parents (parent_of parents g)) h on
  ]

  -- and the other way round
  pub parent_above : (h : ℕ) → IsAtOrAbove parents h (parent_of parents g) → IsAtOrAbove parents h g
  parent_above h above = Contains_from_Has (path_of parents g) h (subst (λ (xs : List ℕ). Has xs h) (sym path_up) (inr (Has_from_Contains (path_of parents (parent_of parents g)) h above)))

  pub parent_other : (h : ℕ) → IsAtOrAbove parents h (parent_of parents g) → h ≢ g
  parent_other h above same = (let most = IsAtOrAbove-le parents tree h (parent_of parents g) parent_there above in let lower = parent_lower in omega (arith, most, lower, same))

  pub parent_itself : IsAtOrAbove parents (parent_of parents g) g
  parent_itself = parent_above (parent_of parents g) (IsAtOrAbove-refl parents tree (parent_of parents g) parent_there)
