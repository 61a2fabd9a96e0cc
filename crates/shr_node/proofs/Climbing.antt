-- SPDX-License-Identifier: GPL-2.0-only
-- Going up from the birth group, over closed lists.
use Rattle.shr_node.proofs.Common.{◌≡◌, ◌≢◌, ℕ, ◌<◌, inl, inr, true, List, [], length, take, sym, refl, subst, ⊎_elim, arith, Some, Place, Entry, Closed, place_number, IsTree, parent_of, path_of, IsAtOrAbove, is_closed, on_child, IsAtOrAbove-trans, IsAtOrAbove-le, IsAtOrAbove-refl, Has_from_Contains, Contains_from_Has, View, Shape, RoomContent, groups_in, with_taken, with_given, Gains, KnowsClosed, IsFirstOpen, closed_at, ◌⊎◌, slice_get, MayStand, path_of-below, Has}
use Rattle.shr_node.proofs.Gaining.{gains_none, gains_then, gains_given, known_given, knows_still}

-- the place of a group at an id and node
abbrev pub place_of : ℕ → ℕ → ℕ → Place
place_of id node group = record { id = id; node = node; group = group }

-- on the way from the birth group up, each group so far is left, and its list is known to be closed
pub record IsOnWay (shape : Shape) (v w : View) (id node birth group : ℕ) : Type 0 where
  pub gains : Gains v w [] []
  pub there : group < groups_in shape
  pub above : IsAtOrAbove shape.parents.items group birth
  pub way : (g : ℕ) → IsAtOrAbove shape.parents.items g birth → IsAtOrAbove shape.parents.items g group ⊎ KnowsClosed w (place_number (place_of id node g))

-- the root's list is never closed
pub below_root : (parents : List ℕ) (group : ℕ) (es : List Entry) → ((n : ℕ) (e : Entry) → slice_get es n ≡ Some e → MayStand parents group (take n es) e) → is_closed es ≡ true → group ≢ 0
below_root parents group es stands closed = let at = closed_at es closed in (stands at.0 Closed at.1).allowed.0

-- at the birth group itself nothing is left yet
pub way_begins : (shape : Shape) (v : View) (id node birth : ℕ) → IsTree shape.parents.items → birth < groups_in shape → IsOnWay shape v v id node birth birth
way_begins shape v id node birth tree there = record {
  gains = gains_none v;
  there = there;
  above = IsAtOrAbove-refl shape.parents.items tree birth there;
  way = λ g above. inl above;
}

-- a group at or above another is that one, or at or above its parent
pub above_parent : (parents : List ℕ) → IsTree parents → (g group : ℕ) → 0 < group → group < length parents → IsAtOrAbove parents g group → (g ≡ group) ⊎ IsAtOrAbove parents g (parent_of parents group)
above_parent parents tree g group low there h = elim (subst (λ (xs : List ℕ). Has xs g) (path_of-below parents tree group low there) (Has_from_Contains (path_of parents group) g h)) as (λ _. (g ≡ group) ⊎ IsAtOrAbove parents g (parent_of parents group)) [
  | inl e ↦ inl (sym e)
  | inr on ↦ inr (Contains_from_Has (path_of parents (parent_of parents group)) g on)
]

-- a parent is above its child
pub parent_above : (parents : List ℕ) → IsTree parents → (group : ℕ) → 0 < group → group < length parents → IsAtOrAbove parents (parent_of parents group) group
parent_above parents tree group low there = Contains_from_Has (path_of parents group) (parent_of parents group) (on_child parents tree (parent_of parents group) group (record { above = low; there = there; parent = refl }))

module _ (shape : Shape) (v w : View) (id node birth group : ℕ) (tree : IsTree shape.parents.items) (far : birth < groups_in shape) (on : IsOnWay shape v w id node birth group) (c : RoomContent) where
  -- the closed list of the group is left
  pub way_goes : is_closed c.entries ≡ true → group ≢ 0 → IsOnWay shape v (with_given (with_taken w (place_number (place_of id node group)) c) (place_number (place_of id node group))) id node birth (parent_of shape.parents.items group)
  way_goes closed below = let low : 0 < group = omega (arith, below) in let k : ℕ = place_number (place_of id node group) in let w' : View = with_given (with_taken w k c) k in let there = on.there in let up = tree.lower group low there in record {
    gains = gains_then v w w' [] [] [] [] on.gains (gains_given w k c);
    there = omega (arith, there, up);
    above = IsAtOrAbove-trans shape.parents.items tree (parent_of shape.parents.items group) group birth far (parent_above shape.parents.items tree group low there) on.above;
    way = λ g above. ⊎_elim
        (λ h. ⊎_elim
        (λ e. inr (subst (λ (x : ℕ). KnowsClosed w' (place_number (place_of id node x))) (sym e) (c.entries, known_given w k c, closed)))
        (λ higher. inl higher)
        (above_parent shape.parents.items tree g group low there h))
        (λ known. inr (known.0, knows_still w w' [] [] (place_number (place_of id node g)) known.0 (gains_given w k c) known.1, known.2))
        (on.way g above);
  }

  -- the first open list is found
  pub way_ends : IsFirstOpen shape w id node birth (place_of id node group)
  way_ends = record {
    same_id = refl;
    same_node = refl;
    above = on.above;
    below = λ g above lower. ⊎_elim (λ h. absurd (omega (arith, lower, IsAtOrAbove-le shape.parents.items tree g group on.there h))) (λ known. known) (on.way g above);
  }
