-- SPDX-License-Identifier: GPL-2.0-only
-- Looking at the lists of a subtree from its highest group down, over open lists alone.
use Rattle.shr_node.proofs.Common.{◌≡◌, ℕ, zero, suc, ◌+◌, ◌<◌, ◌≤◌, Bool, true, false, List, [], length, get_or, set, replicate, sym, refl, ap, subst, ◌∙◌, inl, inr, ⊎_elim, arith, length-replicate, length-set, dite, ℕ_discrete, Made, IsTree, parent_of, IsAtOrAbove, IsAtOrAbove-trans, IsAtOrAbove-le, IsAtOrAbove-refl, get_or-set_same, get_or-set_other, place_number, View, Shape, groups_in, Gains, KnowsClosed, IsKnownClosed, group_place, AreLooked, IsLookedAt, IsMarked}
use Rattle.std.proofs.lemmas.List.{get_or-replicate}
use Rattle.shr_node.proofs.Climbing.{above_parent, parent_above}
use Rattle.shr_node.proofs.Gaining.{knows_still}

-- what is known of a list stays known
pub known_still : (v w : View) (m : List Made) (s : List ℕ) (k : ℕ) → Gains v w m s → KnowsClosed v k → KnowsClosed w k
known_still v w m s k g h = (h.0, knows_still v w m s k h.0 g h.1, h.2)

-- from a number on no list is marked
abbrev pub AreLeft : List Bool → ℕ → Type 0
AreLeft marks top = (at : ℕ) → top ≤ at → at < length marks → get_or marks at false ≡ false

-- a test that is true and false proves anything
pub both_ways : {A : Type 0} (b : Bool) → b ≡ true → b ≡ false → A
both_ways b is isnt = let clash : true ≡ false = sym is ∙ isnt in absurd (cc)

module _ (shape : Shape) (tree : IsTree shape.parents.items) (id node group : ℕ) where
  abbrev parents : List ℕ
  parents = shape.parents.items

  abbrev KnowsAt : View → ℕ → Type 0
  KnowsAt w at = KnowsClosed w (place_number (group_place id node at))

  -- the group's own list counts as open
  module _ (n : ℕ) (low : group < n) where
    pub first_is : get_or (set (replicate n false) group true) group false ≡ true
    first_is = get_or-set_same (replicate n false) group true false (let e = length-replicate n false in omega (arith, low, e))

    pub left_first : AreLeft (set (replicate n false) group true) (group + 1)
    left_first at high lt = get_or-set_other (replicate n false) group at true false (omega (arith, high)) ∙ others at lt
      where
        others : (at : ℕ) → at < length (set (replicate n false) group true) → get_or (replicate n false) at false ≡ false
        others at lt = get_or-replicate n at false false (let a = length-set (replicate n false) group true in let b = length-replicate n false in omega (arith, lt, a, b))

    pub looked_first : (w : View) → group < groups_in shape → AreLooked shape w id node group (set (replicate n false) group true) (group + 1)
    looked_first w there = record {
      below = λ at lt marked. dite (ℕ_discrete at group)
          (λ same. subst (λ (x : ℕ). IsAtOrAbove parents group x) (sym same) (IsAtOrAbove-refl parents tree group there))
          (λ other. both_ways _ marked (get_or-set_other (replicate n false) group at true false other ∙ get_or-replicate n at false false (omega (arith, lt, low))));
      closed = λ at lt looked unmarked. ⊎_elim
          (λ same. both_ways _ first_is (subst (λ (x : ℕ). get_or (set (replicate n false) group true) x false ≡ false) same unmarked))
          (λ under. let high = under.0 in absurd (omega (arith, lt, high)))
          looked;
    }

  -- the list of the next group is open, or closed, where its parent's is open
  module _ (u w : View) (marks : List Bool) (top : ℕ) (so : AreLooked shape u id node group marks top) (high : group < top) (there : top < groups_in shape) (long : top < length marks) (left : AreLeft marks top) where
    lower : parent_of parents top < top
    lower = tree.lower top (omega (arith, high)) there

    pub looked_next : (own : Bool) → Gains u w [] [] → IsMarked marks (parent_of parents top) → (own ≡ false → KnowsAt w top) → AreLooked shape w id node group (set marks top own) (top + 1)
    looked_next own g up closed = record {
      below = λ at lt marked. dite (ℕ_discrete at top)
          (λ same. subst (λ (x : ℕ). IsAtOrAbove parents group x) (sym same) (IsAtOrAbove-trans parents tree group (parent_of parents top) top there (so.below (parent_of parents top) lower up) (parent_above parents tree top (omega (arith, high)) there)))
          (λ other. so.below at (omega (arith, lt, other)) (sym (was at other) ∙ marked));
      closed = λ at lt looked unmarked. dite (ℕ_discrete at top)
          (λ same. subst (KnowsAt w) (sym same) (closed (sym is ∙ subst (λ (x : ℕ). get_or (set marks top own) x false ≡ false) same unmarked)))
          (λ other. known_still u w [] [] (place_number (group_place id node at)) g (so.closed at (omega (arith, lt, other)) (before at lt other looked) (sym (was at other) ∙ unmarked)));
    }
      where
        is : get_or (set marks top own) top false ≡ own
        is = get_or-set_same marks top own false long

        was : (at : ℕ) → (at ≡ top → ⊥) → get_or (set marks top own) at false ≡ get_or marks at false
        was at other = get_or-set_other marks top at own false other

        before : (at : ℕ) → at < top + 1 → (at ≡ top → ⊥) → IsLookedAt parents group (set marks top own) at → IsLookedAt parents group marks at
        before at lt other (inl same) = inl same
        before at lt other (inr (under, marked)) = inr (under, sym (was (parent_of parents at) (λ e. let up = tree.lower at (omega (arith, under)) (omega (arith, lt, there)) in absurd (omega (arith, up, e, lt)))) ∙ marked)

    pub own_next : (own : Bool) → IsMarked marks group → IsMarked (set marks top own) group
    own_next own is = get_or-set_other marks top group own false (omega (arith, high)) ∙ is

    pub left_next : (own : Bool) → AreLeft (set marks top own) (top + 1)
    left_next own at above lt = get_or-set_other marks top at own false (omega (arith, above)) ∙ left at (omega (arith, above)) (let same = length-set marks top own in omega (arith, lt, same))

    -- where it isn't, the list is not looked at
    pub looked_past : get_or marks (parent_of parents top) false ≡ false → AreLooked shape u id node group marks (top + 1)
    looked_past up = record {
      below = λ at lt marked. dite (ℕ_discrete at top)
          (λ same. both_ways _ marked (last at same))
          (λ other. so.below at (omega (arith, lt, other)) marked);
      closed = λ at lt looked unmarked. dite (ℕ_discrete at top)
          (λ same. ⊎_elim
          (λ own. absurd (omega (arith, own, same, high)))
          (λ under. both_ways _ under.1 (ap (λ (x : ℕ). get_or marks (parent_of parents x) false) same ∙ up))
          looked)
          (λ other. so.closed at (omega (arith, lt, other)) looked unmarked);
    }
      where
        last : (at : ℕ) → at ≡ top → get_or marks at false ≡ false
        last at same = left at (omega (arith, same)) (omega (arith, same, long))

    pub left_past : AreLeft marks (top + 1)
    left_past at above lt = left at (omega (arith, above)) lt

  -- more is known later
  pub looked_still : (u w : View) (m : List Made) (s : List ℕ) (marks : List Bool) (top : ℕ) → Gains u w m s → AreLooked shape u id node group marks top → AreLooked shape w id node group marks top
  looked_still u w m s marks top g so = record { below = so.below; closed = λ at lt looked unmarked. known_still u w m s (place_number (group_place id node at)) g (so.closed at lt looked unmarked) }

  module _ (w : View) (marks : List Bool) (so : AreLooked shape w id node group marks (groups_in shape)) where
    -- each list at or below the group that isn't marked is known to be closed, itself or one above it
    pub unmarked_closed : (fuel at : ℕ) → at < fuel → at < groups_in shape → IsAtOrAbove parents group at → get_or marks at false ≡ false → IsKnownClosed parents w (group_place id node at)
    unmarked_closed zero at few there below unmarked = absurd (omega (arith, few))
    unmarked_closed (suc fuel) at few there below unmarked = dite (ℕ_discrete at group)
        (λ same. (at, IsAtOrAbove-refl parents tree at there, so.closed at there (inl same) unmarked))
        (λ other. let le = IsAtOrAbove-le parents tree group at there below in let low : 0 < at = omega (arith, le, other) in let lower = tree.lower at low there in
        by_parent low (omega (arith, le, other)) (⊎_elim (λ same. absurd (omega (arith, same, other))) (λ on. on) (above_parent parents tree group at low there below)) (unmarked_closed fuel (parent_of parents at) (omega (arith, lower, few)) (omega (arith, lower, there))) (get_or marks (parent_of parents at) false) refl)
      where
        by_parent : 0 < at → group < at → IsAtOrAbove parents group (parent_of parents at) → (IsAtOrAbove parents group (parent_of parents at) → get_or marks (parent_of parents at) false ≡ false → IsKnownClosed parents w (group_place id node (parent_of parents at)))
            → (b : Bool) → get_or marks (parent_of parents at) false ≡ b → IsKnownClosed parents w (group_place id node at)
        by_parent low under on above true up = (at, IsAtOrAbove-refl parents tree at there, so.closed at there (inr (under, up)) unmarked)
        by_parent low under on above false up = let k = above on up in (k.0, IsAtOrAbove-trans parents tree k.0 (parent_of parents at) at there k.1 (parent_above parents tree at low there), k.2)
