-- SPDX-License-Identifier: GPL-2.0-only
-- Closing one list after another, groups in falling order.
use Rattle.shr_node.proofs.Common.{◌≡◌, ℕ, suc, ◌+◌, ◌<◌, ◌≤◌, Bool, true, false, cond, List, [], ◌∷◌, ◌++◌, length, sym, refl, ap, subst, ◌∙◌, inr, arith, append_assoc, eq-eqb, ne_eqb, ◌==◌, append-nil, all_pairs_push, slice_index_or, dite, ℕ_discrete, Spent, place_number, Listed, IsTree, is_child, parent_of, IsAtOrAbove, child_takes, child_higher, IsAtOrAbove-refl, IsAtOrAbove-le, Each, Each-none, Each-push, Each-weaker, View, Shape, Made, groups_in, Gains, IsKnownClosed, KnowsClosed, AreLooked, IsMarked, WasMet, Closing, group_place, made_by_closing, bits_by, moved_from_group, IsPair, SpliceWorn, IsChild}
use Rattle.shr_base.specs.declared.replies.Spent.TheVariants as spent
use Rattle.shr_node.specs.Splicing.{made_by_closings, bits_of_closings, IsClosing, AreClosings, SpliceStopsAt, ParentHadRoom, own_number, above_place}
use Rattle.shr_node.proofs.Gaining.{gains_then, counted_before}
use Rattle.shr_node.proofs.Draws.{at_each, met_before}
use Rattle.shr_node.proofs.Looks.{known_still, both_ways, looked_still, unmarked_closed}

-- each list that was found open, of a group with a number from `at` on, is closed now
pub record IsSplicing (shape : Shape) (v w : View) (id node group : ℕ) (marks : List Bool) (at moved : ℕ) : Type 0 where
  pub cs : List Closing
  pub closings : AreClosings shape v w id node group cs
  pub low : Each (λ c. at ≤ c.child) cs
  pub closed : (child : ℕ) → at ≤ child → child < groups_in shape → IsMarked marks child → KnowsClosed w (place_number (group_place id node child))
  pub moved_is : at ≤ group → moved ≡ moved_from_group group cs

-- nothing was closed yet
pub closings_none : (shape : Shape) (v u : View) (id node group : ℕ) → Gains v u [] [] → AreClosings shape v u id node group []
closings_none shape v u id node group g = record { each = Each-none (IsClosing shape v id node group); falling = λ i j d i-lt j-lt. absurd (omega (arith, i-lt, j-lt)); gains = g }

pub splicing_none : (shape : Shape) (v u : View) (id node group : ℕ) (marks : List Bool) → group < groups_in shape → Gains v u [] [] → IsSplicing shape v u id node group marks (groups_in shape) 0
splicing_none shape v u id node group marks there g = record {
  cs = [];
  closings = closings_none shape v u id node group g;
  low = Each-none (λ (c : Closing). groups_in shape ≤ c.child);
  closed = λ child high low. absurd (omega (arith, high, low));
  moved_is = λ le. absurd (omega (arith, le, there));
}

made_push : (parents : List ℕ) (id node : ℕ) (cs : List Closing) (c : Closing) → made_by_closings parents id node (cs ++ c ∷ []) ≡ made_by_closings parents id node cs ++ made_by_closing parents id node c
made_push parents id node [] c = append-nil (made_by_closing parents id node c)
made_push parents id node (x ∷ cs) c = ap (λ (l : List Made). made_by_closing parents id node x ++ l) (made_push parents id node cs c) ∙ sym (append_assoc (made_by_closing parents id node x) (made_by_closings parents id node cs) (made_by_closing parents id node c))

bits_push : (parents : List ℕ) (id node : ℕ) (cs : List Closing) (c : Closing) → bits_of_closings parents id node (cs ++ c ∷ []) ≡ bits_of_closings parents id node cs ++ bits_by parents id node c
bits_push parents id node [] c = append-nil (bits_by parents id node c)
bits_push parents id node (x ∷ cs) c = ap (λ (l : List ℕ). bits_by parents id node x ++ l) (bits_push parents id node cs c) ∙ sym (append_assoc (bits_by parents id node x) (bits_of_closings parents id node cs) (bits_by parents id node c))

-- the objects of the group's own list, which is the last
moved_push : (group : ℕ) (cs : List Closing) (c : Closing) → Each (λ x. group < x.child) cs → moved_from_group group (cs ++ c ∷ []) ≡ cond (c.child == group) (length c.items) 0
moved_push group [] c high = refl
moved_push group (x ∷ cs) c high = ap (λ b. cond b (length x.items) (moved_from_group group (cs ++ c ∷ []))) (ne_eqb x.child group (λ e. let h = high 0 x refl in absurd (omega (arith, h, e)))) ∙ moved_push group cs c (λ j y at. high (suc j) y at)

moved_none : (group : ℕ) (cs : List Closing) → Each (λ x. group < x.child) cs → moved_from_group group cs ≡ 0
moved_none group [] high = refl
moved_none group (x ∷ cs) high = ap (λ b. cond b (length x.items) (moved_from_group group cs)) (ne_eqb x.child group (λ e. let h = high 0 x refl in absurd (omega (arith, h, e)))) ∙ moved_none group cs (λ j y at. high (suc j) y at)

module _ (shape : Shape) (tree : IsTree shape.parents.items) (v u w : View) (id node group : ℕ) (marks : List Bool) (top moved : ℕ) (o : IsSplicing shape v u id node group marks top moved) (looked : AreLooked shape u id node group marks (groups_in shape)) where
  -- the children of a list that was found open are closed
  pub children_closed : (at : ℕ) → top ≡ at + 1 → IsMarked marks at → (child : ℕ) → is_child shape.parents.items at child ≡ true → KnowsClosed u (place_number (group_place id node child))
  children_closed at next mark child is = by_mark (slice_index_or marks child false) refl
    where
      c : IsChild shape.parents.items at child
      c = child_takes shape.parents.items at child is

      higher : at < child
      higher = child_higher shape.parents.items at child tree c

      le : group ≤ at
      le = let there = c.there in IsAtOrAbove-le shape.parents.items tree group at (omega (arith, there, higher)) (looked.below at (omega (arith, there, higher)) mark)

      by_mark : (b : Bool) → slice_index_or marks child false ≡ b → KnowsClosed u (place_number (group_place id node child))
      by_mark true marked = o.closed child (omega (arith, higher, next)) c.there marked
      by_mark false unmarked = looked.closed child c.there (inr (omega (arith, le, higher), ap (λ (x : ℕ). slice_index_or marks x false) c.parent ∙ mark)) unmarked

  -- more is known later
  closed_still : (m : List Made) (s : List ℕ) → Gains u w m s → (child : ℕ) → top ≤ child → child < groups_in shape → IsMarked marks child → KnowsClosed w (place_number (group_place id node child))
  closed_still m s g child high there marked = known_still u w m s (place_number (group_place id node child)) g (o.closed child high there marked)

  -- from one group down to the next
  from_next : (at : ℕ) → top ≡ at + 1 → (m : List Made) (s : List ℕ) → Gains u w m s → (IsMarked marks at → KnowsClosed w (place_number (group_place id node at)))
      → (child : ℕ) → at ≤ child → child < groups_in shape → IsMarked marks child → KnowsClosed w (place_number (group_place id node child))
  from_next at next m s g own child high there marked = dite (ℕ_discrete child at)
      (λ e. subst (λ (x : ℕ). KnowsClosed w (place_number (group_place id node x))) (sym e) (own (subst (IsMarked marks) e marked)))
      (λ n. closed_still m s g child (omega (arith, high, n, next)) there marked)

  -- each list of a group above the next in number is closed, or one above it is
  all_higher : (m : List Made) (s : List ℕ) → Gains u w m s → (child : ℕ) → top ≤ child → child < groups_in shape → IsAtOrAbove shape.parents.items group child → IsKnownClosed shape.parents.items w (group_place id node child)
  all_higher m s g child high there below = by_mark (slice_index_or marks child false) refl
    where
      by_mark : (b : Bool) → slice_index_or marks child false ≡ b → IsKnownClosed shape.parents.items w (group_place id node child)
      by_mark true marked = (child, IsAtOrAbove-refl shape.parents.items tree child there, closed_still m s g child high there marked)
      by_mark false unmarked = unmarked_closed shape tree id node group w marks (looked_still shape tree id node group u w m s marks (groups_in shape) g looked) (child + 1) child (omega arith) there below unmarked

  -- the closings so far, seen from a later view that gained nothing
  still : Gains u w [] [] → AreClosings shape v w id node group o.cs
  still g = record {
    each = o.closings.each;
    falling = o.closings.falling;
    gains = subst (λ (l : List Made). Gains v w l (bits_of_closings shape.parents.items id node o.cs)) (append-nil (made_by_closings shape.parents.items id node o.cs))
        (subst (λ (l : List ℕ). Gains v w (made_by_closings shape.parents.items id node o.cs ++ []) l) (append-nil (bits_of_closings shape.parents.items id node o.cs))
        (gains_then v u w (made_by_closings shape.parents.items id node o.cs) [] (bits_of_closings shape.parents.items id node o.cs) [] o.closings.gains g));
  }

  -- the call stops at the next list, of which nothing changed
  pub splicing_stops : (at : ℕ) → top ≡ at + 1 → at < groups_in shape → IsAtOrAbove shape.parents.items group at → Gains u w [] [] → SpliceStopsAt shape v w id node group at
  splicing_stops at next there below g = record {
    cs = o.cs;
    closings = still g;
    below = below;
    there = there;
    above = Each-weaker (λ (c : Closing). top ≤ c.child) (λ (c : Closing). at < c.child) (λ c h. omega (arith, h, next)) o.cs o.low;
    closed = λ higher high low on. all_higher [] [] g higher (omega (arith, high, next)) low on;
  }

  -- what was met, as the first view sees it
  was_pair : (child : ℕ) (given old : Listed) → IsPair shape u w id node child given old → IsPair shape v w id node child given old
  was_pair child given old p = record { met = was_met (place_number (group_place id node child)) given p.met; above_met = was_met (place_number (group_place id node (parent_of shape.parents.items child))) old p.above_met; apart = p.apart }
    where
      was_met : (k : ℕ) (old : Listed) → WasMet shape u w k old → WasMet shape v w k old
      was_met k old = met_before shape v u w (made_by_closings shape.parents.items id node o.cs) (bits_of_closings shape.parents.items id node o.cs) k old o.closings.gains

  -- a full list that was met after some closings is told of the view before them
  pub worn_before : (s : Spent) (child : ℕ) → SpliceWorn shape u w id node child s → SpliceWorn shape v w id node child s
  worn_before (spent.List place entries items) child h = record { given = h.given; old = h.old; here = h.here; pair = was_pair child h.given h.old h.pair; worn = h.worn }
  worn_before (spent.Lookups i seen) child h = h
  worn_before (spent.Charges charges uncharges) child h = h

  -- the same for a list with room
  pub free_before : (child : ℕ) → ParentHadRoom shape u w id node child → ParentHadRoom shape v w id node child
  free_before child h = record { given = h.given; old = h.old; pair = was_pair child h.given h.old h.pair; room = h.room }

  -- a list that isn't marked is passed over
  pub splicing_skips : (at : ℕ) → top ≡ at + 1 → group ≤ at → IsMarked marks group → slice_index_or marks at false ≡ false → IsSplicing shape v u id node group marks at moved
  splicing_skips at next le own unmarked = record {
    cs = o.cs;
    closings = o.closings;
    low = Each-weaker (λ (c : Closing). top ≤ c.child) (λ (c : Closing). at ≤ c.child) (λ c h. omega (arith, h, next)) o.cs o.low;
    closed = λ child high low marked. dite (ℕ_discrete child at)
        (λ e. both_ways _ (subst (IsMarked marks) e marked) unmarked)
        (λ n. o.closed child (omega (arith, high, n, next)) low marked);
    moved_is = λ low. both_ways _ (subst (IsMarked marks) (same low) own) unmarked;
  } where
    same : at ≤ group → group ≡ at
    same low = omega (arith, low, le)

  -- a list was closed before
  pub splicing_was : (at : ℕ) → top ≡ at + 1 → group ≤ at → Gains u w [] [] → KnowsClosed w (place_number (group_place id node at)) → IsSplicing shape v w id node group marks at 0
  splicing_was at next le g own = record {
    cs = o.cs;
    closings = still g;
    low = Each-weaker (λ (c : Closing). top ≤ c.child) (λ (c : Closing). at ≤ c.child) (λ c h. omega (arith, h, next)) o.cs o.low;
    closed = from_next at next [] [] g (λ h. own);
    moved_is = λ low. sym (moved_none group o.cs (Each-weaker (λ (c : Closing). top ≤ c.child) (λ (c : Closing). group < c.child) (λ c h. omega (arith, h, next, le)) o.cs o.low));
  }

  -- a list is closed now
  pub splicing_one : (at : ℕ) (c : Closing) (objects : ℕ) → top ≡ at + 1 → group ≤ at → IsAtOrAbove shape.parents.items group at → c.child ≡ at → objects ≡ length c.items → IsClosing shape u id node at c
      → Gains u w (made_by_closing shape.parents.items id node c) (bits_by shape.parents.items id node c) → KnowsClosed w (place_number (group_place id node at)) → IsSplicing shape v w id node group marks at objects
  splicing_one at c objects next le below is count one g own = record {
    cs = o.cs ++ c ∷ [];
    closings = record {
      each = Each-push (IsClosing shape v id node group) o.cs c (record {
        below = subst (λ (x : ℕ). IsAtOrAbove shape.parents.items group x) (sym is) below;
        low = one.low;
        there = one.there;
        later = counted_before shape v u (made_by_closings shape.parents.items id node o.cs) (bits_of_closings shape.parents.items id node o.cs) (own_number id node c) (length c.items) c.number o.closings.gains one.later;
        room_entries = one.room_entries;
        room_items = one.room_items;
        above_later = counted_before shape v u (made_by_closings shape.parents.items id node o.cs) (bits_of_closings shape.parents.items id node o.cs) (above_place shape.parents.items id node c) (length c.above_items) c.above_number o.closings.gains one.above_later;
      }) o.closings.each;
      falling = all_pairs_push (λ (a b : Closing). b.child < a.child) o.cs c o.closings.falling (λ j x lt. let h = at_each (λ (y : Closing). top ≤ y.child) o.cs j x o.low lt in omega (arith, h, is, next));
      gains = subst (λ (l : List Made). Gains v w l (bits_of_closings shape.parents.items id node (o.cs ++ c ∷ []))) (sym (made_push shape.parents.items id node o.cs c))
          (subst (λ (l : List ℕ). Gains v w (made_by_closings shape.parents.items id node o.cs ++ made_by_closing shape.parents.items id node c) l) (sym (bits_push shape.parents.items id node o.cs c))
          (gains_then v u w (made_by_closings shape.parents.items id node o.cs) (made_by_closing shape.parents.items id node c) (bits_of_closings shape.parents.items id node o.cs) (bits_by shape.parents.items id node c) o.closings.gains g));
    };
    low = Each-push (λ (x : Closing). at ≤ x.child) o.cs c (omega (arith, is)) (Each-weaker (λ (x : Closing). top ≤ x.child) (λ (x : Closing). at ≤ x.child) (λ x h. omega (arith, h, next)) o.cs o.low);
    closed = from_next at next (made_by_closing shape.parents.items id node c) (bits_by shape.parents.items id node c) g (λ h. own);
    moved_is = λ low. count ∙ sym (moved_push group o.cs c (Each-weaker (λ (x : Closing). top ≤ x.child) (λ (x : Closing). group < x.child) (λ x h. omega (arith, h, next, le)) o.cs o.low)
        ∙ ap (λ b. cond b (length c.items) 0) (eq-eqb c.child group (omega (arith, is, low, le))));
  }
