-- SPDX-License-Identifier: GPL-2.0-only
-- The groups at or above another, one after the other.
use Rattle.shr_audit_walks.proofs.RoundsCommon.{◌≡◌, ℕ, zero, suc, ◌+◌, ◌<◌, ◌≤◌, Bool, true, false, List, [], ◌∷◌, ◌++◌, length, get_or, take, refl, sym, subst, ◌∙◌, inl, inr, arith, ◌↔◌, ◌==◌, nat_lt, Decides, AllByRecursion, cases_Bool, eqb-true, eq-eqb, nat_tests, take_more, IsAtOrAbove, IsTree, parent_of, path_of-below, path_of-root}
use Rattle.shr_model.specs.Groups.{path_of}
use Rattle.shr_model.proofs.Members.{Has, Contains_from_Has, Has_from_Contains}
use Rattle.shr_model.proofs.Lists.{none_past}
use Rattle.shr_model.proofs.GroupsLaws.{path_of-past}

-- the path of a group below the root is the group, and then the path of its parent
path_next : (parents : List ℕ) → IsTree parents → (b : ℕ) → 0 < b → path_of parents b ≡ b ∷ path_of parents (parent_of parents b)
path_next parents tree b some = elim (cases_Bool (nat_lt b (length parents))) [
  | inl t ↦ path_of-below parents tree b some (below t)
  | inr f ↦ path_of-past parents b some (past f)
]
  where
    below : nat_lt b (length parents) ≡ true → b < length parents
    below t = grind (arith, nat_tests)

    past : nat_lt b (length parents) ≡ false → length parents ≤ b
    past f = grind (arith, nat_tests)

pub lower : (parents : List ℕ) → IsTree parents → (b : ℕ) → 0 < b → parent_of parents b < b
lower parents tree b some = elim (cases_Bool (nat_lt b (length parents))) [
  | inl t ↦ tree.lower b some (below t)
  | inr f ↦ let up = none_past parents b (past f) in omega (arith, up)
]
  where
    below : nat_lt b (length parents) ≡ true → b < length parents
    below t = grind (arith, nat_tests)

    past : nat_lt b (length parents) ≡ false → length parents ≤ b
    past f = grind (arith, nat_tests)

module _ (parents : List ℕ) (tree : IsTree parents) (above b : ℕ) where
  pub own : b ≡ above → 0 < b → IsAtOrAbove parents above b
  own e some = Contains_from_Has (path_of parents b) above (subst (λ (xs : List ℕ). Has xs above) (sym (path_next parents tree b some)) (inl e))

  -- what isn't the group itself is above it if it is at or above its parent
  pub up_one : 0 < b → (b ≡ above → ⊥) → IsAtOrAbove parents above (parent_of parents b) ↔ IsAtOrAbove parents above b
  up_one some ne = (
    λ h. Contains_from_Has (path_of parents b) above (subst (λ (xs : List ℕ). Has xs above) (sym (path_next parents tree b some)) (inr (Has_from_Contains (path_of parents (parent_of parents b)) above h))),
    λ h. Contains_from_Has (path_of parents (parent_of parents b)) above (by (subst (λ (xs : List ℕ). Has xs above) (path_next parents tree b some) (Has_from_Contains (path_of parents b) above h))),
  )
    where
      by : Has (b ∷ path_of parents (parent_of parents b)) above → Has (path_of parents (parent_of parents b)) above
      by (inl e) = absurd (ne e)
      by (inr h) = h

-- at the root is the root alone
pub at_root : (parents : List ℕ) (above b : ℕ) (t : Bool) → b ≡ 0 → t ≡ (above == 0) → Decides t (IsAtOrAbove parents above b)
at_root parents above b t e is = subst (λ (x : ℕ). Decides t (IsAtOrAbove parents above x)) (sym e) (
  λ s. Contains_from_Has (path_of parents 0) above (subst (λ (xs : List ℕ). Has xs above) (sym (path_of-root parents)) (inl (sym (eqb-true above 0 (sym is ∙ s))))),
  λ h. is ∙ eq-eqb above 0 (by (subst (λ (xs : List ℕ). Has xs above) (path_of-root parents) (Has_from_Contains (path_of parents 0) above h))),
)
  where
    by : Has (0 ∷ []) above → above ≡ 0
    by (inl e) = sym e
    by (inr h) = absurd h

-- ---- on the way up

module _ (parents : List ℕ) (tree : IsTree parents) (above at group : ℕ) (way : IsAtOrAbove parents above at ↔ IsAtOrAbove parents above group) where
  pub found : at ≡ above → 0 < at → Decides true (IsAtOrAbove parents above group)
  found e some = (λ t. way.0 (own parents tree above at e some), λ h. refl)

  pub climbed : (next : ℕ) → next ≡ parent_of parents at → 0 < at → (at ≡ above → ⊥) → IsAtOrAbove parents above next ↔ IsAtOrAbove parents above group
  climbed next e some ne = subst (λ (x : ℕ). IsAtOrAbove parents above x ↔ IsAtOrAbove parents above group) (sym e) (
    λ h. way.0 ((up_one parents tree above at some ne).0 h),
    λ h. (up_one parents tree above at some ne).1 (way.1 h),
  )

  pub at_top : at ≤ 0 → (t : Bool) → t ≡ (above == 0) → Decides t (IsAtOrAbove parents above group)
  at_top le t e =
      let zero_at : at ≡ 0 = omega arith in
      let d = at_root parents above at t zero_at e in
      (λ s. way.0 (d.0 s), λ h. d.1 (way.1 h))

-- ---- each of some groups

pub above_more : (parents : List ℕ) (group : ℕ) (groups : List ℕ) (i : ℕ) → i < length groups → AllByRecursion (λ (h : ℕ). IsAtOrAbove parents h group) (take i groups) → IsAtOrAbove parents (get_or groups i 0) group → AllByRecursion (λ (h : ℕ). IsAtOrAbove parents h group) (take (i + 1) groups)
above_more parents group groups i lt before here = subst (λ (xs : List ℕ). AllByRecursion (λ (h : ℕ). IsAtOrAbove parents h group) xs) (sym (take_more groups i 0 lt)) (both (take i groups) before)
  where
    both : (xs : List ℕ) → AllByRecursion (λ (h : ℕ). IsAtOrAbove parents h group) xs → AllByRecursion (λ (h : ℕ). IsAtOrAbove parents h group) (xs ++ get_or groups i 0 ∷ [])
    both [] all = (here, tt)
    both (x ∷ xs) all = (all.0, both xs all.1)

pub above_fails : (parents : List ℕ) (group : ℕ) (groups : List ℕ) (i : ℕ) (b : Bool) → i < length groups → Decides b (IsAtOrAbove parents (get_or groups i 0) group) → b ≡ false → Decides false (AllByRecursion (λ (h : ℕ). IsAtOrAbove parents h group) groups)
above_fails parents group groups i b lt d isnt = (λ t. absurd cc, λ all. absurd (clash b (d.1 (one groups i lt all)) isnt))
  where
    clash : (b : Bool) → b ≡ true → b ≡ false → ⊥
    clash b e f = cc

    one : (xs : List ℕ) (k : ℕ) → k < length xs → AllByRecursion (λ (h : ℕ). IsAtOrAbove parents h group) xs → IsAtOrAbove parents (get_or xs k 0) group
    one [] k lt all = absurd (omega arith)
    one (x ∷ xs) zero lt all = all.0
    one (x ∷ xs) (suc k) lt all = one xs k (omega arith) all.1
