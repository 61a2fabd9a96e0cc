-- SPDX-License-Identifier: GPL-2.0-only
-- Groups that are a tree, by their declarations.
use Rattle.shr_audit_causes.proofs.OfflinesCommon.{◌≡◌, ℕ, zero, suc, ◌<◌, ◌≤◌, List, ◌∷◌, length, map, Some, refl, ap, ◌∙◌, inl, inr, arith, slice_get, GroupDecl, IsTree, parent_of, get_or-map, length-map, slice_get_cases}

pub tree_of : (groups : List GroupDecl) → ((k : ℕ) (g : GroupDecl) → k < length groups → slice_get groups k ≡ Some g → g.parent ≤ k) → IsTree (0 ∷ map (λ (g : GroupDecl). g.parent) groups)
tree_of groups low = record { has_root = omega arith; root = refl; lower = lower }
  where
    parents : List ℕ
    parents = 0 ∷ map (λ (g : GroupDecl). g.parent) groups

    lower : (group : ℕ) → 0 < group → group < length (0 ∷ map (λ (g : GroupDecl). g.parent) groups) → parent_of (0 ∷ map (λ (g : GroupDecl). g.parent) groups) group < group
    lower zero below lt = absurd (omega arith)
    lower (suc k) below lt = elim (slice_get_cases groups k).1 [
      | inl at ↦
          (let is = get_or-map (λ (g : GroupDecl). g.parent) groups k at.0 0 at.1 ∙ ap (λ (g : GroupDecl). g.parent) at.3 in
          let le = low k at.0 at.1 at.2 in
          omega (arith, is, le))
      | inr past ↦ absurd (let many = length-map groups (λ (g : GroupDecl). g.parent) in let over = past.0 in omega (arith, lt, many, over))
    ]
