-- SPDX-License-Identifier: GPL-2.0-only
-- Splices one after another.
use Rattle.shr_offline.proofs.Common.{ℕ, suc, ◌+◌, ◌≤◌, Bool, List, [], ◌∷◌, ◌++◌, length, refl, sym, subst, arith, map-range_with_len_more, Place, View, Shape, IsSpliced, AreSpliced, first_places, place_by_number, true, false, cond, ◌==◌, Closing, IsClosing, moved_from_group}
use Rattle.shr_seats.specs.Views.{Each}

-- one splice more
pub spliced_more : (shape : Shape) (ps : List Place) (p : Place) (m n : ℕ) (v u w : View) → AreSpliced shape ps m v u → IsSpliced shape u w p.id p.node p.group n → AreSpliced shape (ps ++ p ∷ []) (m + n) v w
spliced_more shape [] p m n v u w h one = (w, n, 0, (let none = h.0 in omega (arith, none)), subst (λ (x : View). IsSpliced shape x w p.id p.node p.group n) (sym h.1) one, (refl, refl))
spliced_more shape (q ∷ qs) p m n v u w (t, first, rest, sums, is, others) one = (t, first, rest + n, omega (arith, sums), is, spliced_more shape qs p rest n t u w others one)

-- one place more is spliced, and what it moved is added
pub next_place : (shape : Shape) (group k m n : ℕ) (v u w : View) → AreSpliced shape (first_places shape group k) m v u → IsSpliced shape u w (place_by_number shape group k).id (place_by_number shape group k).node group n → AreSpliced shape (first_places shape group (k + 1)) (m + n) v w
next_place shape group k m n v u w so-far one = subst (λ (l : List Place). AreSpliced shape l (m + n) v w) (sym (map-range_with_len_more (place_by_number shape group) 0 k k (omega arith))) (spliced_more shape (first_places shape group k) (place_by_number shape group k) m n v u w so-far one)

-- a group's own list gives no more than a list may hold
moved_small : (shape : Shape) (v : View) (id node group : ℕ) (cs : List Closing) → Each (IsClosing shape v id node group) cs → moved_from_group group cs ≤ shape.most_items
moved_small shape v id node group [] each = omega arith
moved_small shape v id node group (c ∷ cs) each = by_test (c.child == group) (each 0 c refl).room_items (moved_small shape v id node group cs (λ j x at. each (suc j) x at)) where
  by_test : (b : Bool) → length c.items + length c.above_items ≤ shape.most_items → moved_from_group group cs ≤ shape.most_items → cond b (length c.items) (moved_from_group group cs) ≤ shape.most_items
  by_test true room rest = omega (arith, room)
  by_test false room rest = rest

-- one splice moves no more objects than a list may hold
pub few_moved : (shape : Shape) (v w : View) (id node group moved : ℕ) → IsSpliced shape v w id node group moved → moved ≤ shape.most_items
few_moved shape v w id node group moved s = let most = moved_small shape v id node group s.cs s.closings.each in let is = s.moved_is in omega (arith, most, is)
