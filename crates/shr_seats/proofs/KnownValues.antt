-- SPDX-License-Identifier: GPL-2.0-only
-- Shapes that tables may be made in and shapes that they may not, and seats of a table, at known values.
use Rattle.shr_seats.proofs.Common.{◌≡◌, ℕ, zero, suc, ◌<◌, ◌≤◌, true, false, List, [], ◌∷◌, refl, arith, ◌+◌, count_by, Standing, AreSeats, IsWhole, is_out, at_first, at_split, with_split, with_join, Some, None}
use Rattle.shr_base.specs.Kept.{Kept}
use Rattle.shr_model.specs.Trees.{IsTree, IsHierarchy}
use Rattle.shr_model.specs.Groups.{is_later, parent_of}
use Rattle.shr_seats.specs.declared.shape.Shape.{Shape}
use Rattle.shr_seats.specs.Shapes.{IsShape, HasLimits, hierarchy_of}
use Rattle.shr_seats.proofs.Weighing.{Each-one}

abbrev kept : {A : Type 0} → List A → Kept A
kept items = record { items = items; spare = 0 }

-- the root, a group below it and one below that
abbrev parents : List ℕ
parents = 0 ∷ 0 ∷ 1 ∷ []

lower : (g : ℕ) → 0 < g → g < 3 → parent_of parents g < g
lower zero above low = absurd (omega (arith, above))
lower (suc zero) above low = omega arith
lower (suc (suc zero)) above low = omega arith
lower (suc (suc (suc g))) above low = absurd (omega (arith, low))

line : IsTree parents
line = record { has_root = omega arith; root = refl; lower = lower }

-- a group that is its own parent
not_tree : IsTree (0 ∷ 1 ∷ []) → ⊥
not_tree t = let low : 1 < 1 = t.lower 1 (omega arith) (omega arith) in omega (arith, low)

abbrev shape : Shape
shape = record { parents = kept parents; later = kept (false ∷ true ∷ true ∷ []); limits = kept (None ∷ Some 4 ∷ None ∷ []); nodes = 2; ids = 3; decls = 1; most_items = 10; most_entries = 100 }

a_shape : IsShape shape
a_shape = record { tree = line; groups = omega arith; some_nodes = omega arith; nodes = omega arith; some_ids = omega arith; ids = omega arith; decls = omega arith; most_items = omega arith; most_entries = omega arith }

-- a core reads no limits
no_limits : IsShape (record shape { limits = kept [] })
no_limits = record { tree = line; groups = omega arith; some_nodes = omega arith; nodes = omega arith; some_ids = omega arith; ids = omega arith; decls = omega arith; most_items = omega arith; most_entries = omega arith }

five_nodes : IsShape (record shape { nodes = 5 }) → ⊥
five_nodes s = let few : 5 ≤ 4 = s.nodes in omega (arith, few)

no_ids : IsShape (record shape { ids = 0 }) → ⊥
no_ids s = let some : 0 < 0 = s.some_ids in omega (arith, some)

its_own_parent : IsShape (record shape { parents = kept (0 ∷ 1 ∷ []) }) → ⊥
its_own_parent s = not_tree s.tree

-- the two groups below the root are later
two_later : IsHierarchy (hierarchy_of shape)
two_later = record { tree = line; each = refl; root = refl; above = above } where
  above : (g : ℕ) → g < 3 → is_later (false ∷ true ∷ true ∷ []) g ≡ false → is_later (false ∷ true ∷ true ∷ []) (parent_of parents g) ≡ false
  above zero low e = refl
  above (suc zero) low e = absurd (cc)
  above (suc (suc zero)) low e = absurd (cc)
  above (suc (suc (suc n))) low e = absurd (omega (arith, low))

limited : HasLimits shape
limited = record { tree = line; hierarchy = two_later; groups = omega arith; limits = refl }

-- charges ask for no node and no id
no_sizes : HasLimits (record shape { nodes = 0; ids = 0 })
no_sizes = record { tree = line; hierarchy = two_later; groups = omega arith; limits = refl }

a_limit_too_few : HasLimits (record shape { limits = kept (None ∷ Some 4 ∷ []) }) → ⊥
a_limit_too_few h = let same : 2 ≡ 3 = h.limits in omega (arith, same)

-- nothing is said of whether the last group is later
lateness_short : HasLimits (record shape { later = kept (false ∷ true ∷ []) }) → ⊥
lateness_short h = let same : 2 ≡ 3 = h.hierarchy.each in omega (arith, same)

-- the seat that was split off is joined again
whole : IsWhole (with_join (with_split at_first))
whole = refl

-- it is not
not_whole : IsWhole (with_split at_first) → ⊥
not_whole w = let none : 0 ≡ 1 = w in omega (arith, none)

-- no seat is the first
no_first : AreSeats (at_split ∷ []) → ⊥
no_first a = let none : 0 ≡ 1 = a.one_first in omega (arith, none)

two_firsts : AreSeats (at_first ∷ at_first ∷ []) → ⊥
two_firsts a = let both : 2 ≡ 1 = a.one_first in omega (arith, both)

-- a table's first seat alone
alone : AreSeats (at_first ∷ [])
alone = record {
  one_first = refl;
  out = Each-one (λ (z : Standing). z.first ≡ true → count_by is_out (at_first ∷ []) + z.joins ≡ z.splits) at_first (λ f. refl);
  number = Each-one (λ (z : Standing). z.first ≡ true → 1 ≡ 1 + z.splits) at_first (λ f. refl);
}
