-- SPDX-License-Identifier: GPL-2.0-only
-- One list is closed into its parent's.
use Rattle.shr_node.proofs.Common.{◌≡◌, ℕ, ◌+◌, ◌*◌, ◌<◌, ◌≤◌, Bool, true, false, cond, List, [], ◌∷◌, ◌++◌, length, take, sym, refl, ap, subst, ◌∙◌, arith, length-append, Contains, ◌&&◌, nat_lt, append-nil, Contains-push, Contains-append_left, Place, Entry, MovedIn, Closed, place_number, at_group, IsTree, parent_of, is_child, is_closed, moved_in, AreChildrenMovedIn, child_again, Has_from_Contains, Contains_from_Has, Listed, IsSound, View, Shape, Room, RoomContent, Holding, Known, no_rooms, group_of, beside, list_content, has_room, groups_in, IsPlaceOfShape, in_hand, with_taken, with_given, drained_after, IsTaken, IsCounted, Gains, Knows, KnowsClosed, WasOpen, WasMet, Closing, IsPair, group_place, made_by_closing, bits_by, AreBothTaken, has_taken, begins_push, begins_more, IsInHand, closed_at, taken_in_hand}
use Rattle.shr_list.specs.Answers as answer
use Rattle.shr_node.proofs.Storing.{BothReady}
use Rattle.shr_node.proofs.Gaining.{gains_of, given, marks_stay}
use Rattle.shr_node.proofs.Acting.{each_of, in_hand_whole}
use Rattle.shr_model.proofs.FamilyLaws.{taken_has}

-- what a taken room says of the seat's counts
pub counted_taken : (shape : Shape) (v : View) (k : ℕ) (l : Listed) → IsTaken shape v k (list_content l) → IsCounted shape v k (length l.items) (length l.entries)
counted_taken shape v k l t = record {
  known = λ j x at same. let b = t.known j x at same in omega (arith, ap (length {A = Entry}) b.1, length-append x.entries b.0);
  seen = t.seen;
  made = t.made;
  items = t.items;
  entries = t.entries;
}

-- the view once a parent's room was given back as it was, which was taken after its child's
abbrev above_back : View → ℕ → RoomContent → ℕ → RoomContent → View
above_back u k c p d = let w : View = with_taken (with_taken u k c) p d in
    record w { holding = record w.holding { hands = (with_taken u k c).holding.hands }; traces = record w.traces { known = w.traces.known ++ record { place = p; entries = d.entries } ∷ [] }; claims = record w.claims { drained = drained_after w.claims p d.items } }

-- and once the child's was, too
abbrev both_back : View → ℕ → RoomContent → ℕ → RoomContent → View
both_back u k c p d = let w : View = above_back u k c p d in
    record w { holding = record w.holding { hands = u.holding.hands }; traces = record w.traces { known = w.traces.known ++ record { place = k; entries = c.entries } ∷ [] }; claims = record w.claims { drained = drained_after w.claims k c.items } }

given_back : (u : View) (k : ℕ) (c : RoomContent) (p : ℕ) (d : RoomContent) → with_given (with_given (with_taken (with_taken u k c) p d) p) k ≡ both_back u k c p d
given_back u k c p d = ap (λ (w : View). with_given w k) (given (with_taken (with_taken u k c) p d) p d (with_taken u k c).holding.hands refl) ∙ given (above_back u k c p d) k c u.holding.hands refl

-- both journals are known then
knows_left : (u : View) (k : ℕ) (c : RoomContent) (p : ℕ) (d : RoomContent) → let w : View = with_given (with_given (with_taken (with_taken u k c) p d) p) k in Knows w k c.entries × Knows w p d.entries
knows_left u k c p d = let back = sym (given_back u k c p d) in
    let above : Known = record { place = p; entries = d.entries } in
    let own : Known = record { place = k; entries = c.entries } in (
      subst (λ (w : View). Knows w k c.entries) back (Contains-push (u.traces.known ++ above ∷ []) own),
      subst (λ (w : View). Knows w p d.entries) back (Contains-append_left (u.traces.known ++ above ∷ []) (own ∷ []) above (Contains-push u.traces.known above)),
    )

-- both rooms are given back as they were
pub gains_left : (u : View) (k : ℕ) (c : RoomContent) (p : ℕ) (d : RoomContent) → Gains u (with_given (with_given (with_taken (with_taken u k c) p d) p) k) [] []
gains_left u k c p d = subst (λ (w : View). Gains u w [] []) (sym (given_back u k c p d)) (gains_of _ _ _ _ (record {
  made = sym (append-nil u.traces.made);
  known = begins_more u.traces.known (u.traces.known ++ record { place = p; entries = d.entries } ∷ []) ((u.traces.known ++ record { place = p; entries = d.entries } ∷ []) ++ record { place = k; entries = c.entries } ∷ []) (begins_push u.traces.known (record { place = p; entries = d.entries })) (begins_push (u.traces.known ++ record { place = p; entries = d.entries } ∷ []) (record { place = k; entries = c.entries }));
  seen = refl;
  tries = refl;
  sets = sym (append-nil u.marks.sets);
  cleared = refl;
  maps = refl;
  owed = λ j h. h;
  holding = refl;
  claims = refl;
  marks = λ free. ap (λ (l : List ℕ). record u.claims { drained = l }) (marks_stay (record u.claims { drained = drained_after u.claims p d.items }) k c.items free ∙ marks_stay u.claims p d.items free);
  turns = refl;
  standing = refl;
  did = [];
  noted = sym (append-nil u.did);
  kinds = record { seen = refl; made = refl; attempts = refl; loaded = refl; turns = refl; sets = refl; cleared = refl; maps = refl };
  seat = refl;
  uses = λ u. refl;
}))

module _ (shape : Shape) (u v : View) (child above : Place) (old old_above : Listed) (tree : IsTree shape.parents.items) (nodes : shape.nodes ≤ 4) (groups : groups_in shape ≤ 256) (r : AreBothTaken shape u v child above old old_above) where
  abbrev k : ℕ
  k = place_number child

  abbrev p : ℕ
  p = place_number above

  p_is : place_number above ≡ 1024 * child.id + 256 * child.node + parent_of shape.parents.items child.group
  p_is = ap place_number r.parent

  group_p : group_of (place_number above) ≡ parent_of shape.parents.items child.group
  group_p = let is = p_is in let lower = tree.lower child.group r.low r.child_place.group in let there = r.child_place.group in omega (arith, is, lower, there, groups)

  under : beside (place_number above) child.group ≡ place_number child
  under = let is = p_is in let lower = tree.lower child.group r.low r.child_place.group in let there = r.child_place.group in omega (arith, is, lower, there, groups)

  child_is : is_child shape.parents.items (group_of (place_number above)) child.group ≡ true
  child_is = child_again shape.parents.items (group_of (place_number above)) child.group (record { above = r.low; there = r.child_place.group; parent = sym group_p })

  hand : in_hand (with_taken u (place_number child) (list_content old)) (beside (place_number above) child.group) ≡ list_content old
  hand = ap (in_hand (with_taken u k (list_content old))) under ∙ taken_one where
    taken_one : in_hand (with_taken u k (list_content old)) k ≡ list_content old
    taken_one = taken_in_hand u k (list_content old)

  -- an open child's list was not moved in
  pub apart_from : is_closed old.entries ≡ false → ¬ Contains (moved_in old_above.entries) child.group
  apart_from opens = r.told_above.child_open child.group child_is (subst (λ (x : ℕ). 0 < has_room x (with_taken u k (list_content old)).holding) (sym under) (has_taken u k (list_content old))) (ap (λ (c : RoomContent). is_closed c.entries) hand ∙ opens) (ap (λ (h : Holding). h.half) r.none)

  -- so that the parent's list is open
  pub above_opens : is_closed old.entries ≡ false → is_closed old_above.entries ≡ false
  above_opens opens = by (is_closed old_above.entries) refl where
    by : (b : Bool) → is_closed old_above.entries ≡ b → b ≡ false
    by false e = refl
    by true e = let at = closed_at old_above.entries e in
        absurd (apart_from opens (Contains_from_Has (moved_in old_above.entries) child.group (taken_has old_above.entries at.0 child.group (Has_from_Contains (moved_in (take at.0 old_above.entries)) child.group ((r.told_above.stands at.0 Closed at.1).allowed.1 child.group child_is)))))

  -- both rooms go back as they were
  pub both_left : with_given (with_given v (place_number above)) (place_number child) ≡ with_given (with_given (with_taken (with_taken u k (list_content old)) p (list_content old_above)) p) k
  both_left = ap (λ (w : View). with_given (with_given w p) k) r.taken

  -- the parent's list comes after what the first view saw
  pub above_counted : IsCounted shape u (place_number above) (length old_above.items) (length old_above.entries)
  above_counted = let t = counted_taken shape (with_taken u k (list_content old)) p old_above r.told_above in record { known = t.known; seen = t.seen; made = t.made; items = t.items; entries = t.entries }

  -- the parent's list was met open, after all that the seat knew before it took the child's room
  pub above_was : is_closed old.entries ≡ false → WasOpen shape u (place_number above) old_above
  above_was opens = record { «open» = above_opens opens; most_items = r.told_above.most_items; most_entries = r.told_above.most_entries; later = above_counted; journal = r.told_above.journal }

  -- and so does the child's
  pub child_was : is_closed old.entries ≡ false → WasOpen shape u (place_number child) old
  child_was opens = record { «open» = opens; most_items = r.told.most_items; most_entries = r.told.most_entries; later = counted_taken shape u (place_number child) old r.told; journal = r.told.journal }

  -- both journals are known once both rooms were given back as they were
  pub both_met : (w : View) → w ≡ with_given (with_given v (place_number above)) (place_number child) → is_closed old.entries ≡ false → (id node group : ℕ) → child ≡ group_place id node group → IsPair shape u w id node group old old_above
  both_met w left opens id node group is-child = let is = sym (left ∙ both_left) in let known = knows_left u (place_number child) (list_content old) (place_number above) (list_content old_above) in record {
    met = subst (λ (x : Place). WasMet shape u w (place_number x) old) is-child (record { was = child_was opens; known = subst (λ (x : View). Knows x (place_number child) old.entries) is known.0 });
    above_met = subst (λ (x : Place). WasMet shape u w (place_number x) old_above) (r.parent ∙ ap (λ (x : Place). at_group x (parent_of shape.parents.items x.group)) is-child)
        (record { was = above_was opens; known = subst (λ (x : View). Knows x (place_number above) old_above.entries) is known.1 });
    apart = subst (λ (x : Place). ¬ Contains (moved_in old_above.entries) x.group) is-child (apart_from opens);
  }

  -- and nothing is gained
  pub both_gain : (w : View) → w ≡ with_given (with_given v (place_number above)) (place_number child) → Gains u w [] []
  both_gain w left = subst (λ (x : View). Gains u x [] []) (sym (left ∙ both_left)) (gains_left u (place_number child) (list_content old) (place_number above) (list_content old_above))

-- both rooms were taken, the child's and then its parent's
pub are_taken : (shape : Shape) (v w x : View) (id node group parent : ℕ) (child above : Room) → v.holding ≡ no_rooms → IsPlaceOfShape shape (group_place id node group) → IsPlaceOfShape shape (group_place id node parent) → 0 < group → parent ≡ parent_of shape.parents.items group
    → child.place ≡ group_place id node group → w ≡ with_taken v (place_number (group_place id node group)) (list_content child.list) → IsTaken shape v (place_number (group_place id node group)) (list_content child.list)
    → above.place ≡ group_place id node parent → x ≡ with_taken w (place_number (group_place id node parent)) (list_content above.list) → IsTaken shape w (place_number (group_place id node parent)) (list_content above.list)
    → AreBothTaken shape v x child.place above.place child.list above.list
are_taken shape v w x id node group parent child above none own up low is child-place taken told above-place taken-above told-above = subst (λ (p : Place). AreBothTaken shape v x p above.place child.list above.list) (sym child-place)
    (subst (λ (p : Place). AreBothTaken shape v x (group_place id node group) p child.list above.list) (sym above-place) (record {
      none = none;
      taken = taken-above ∙ ap (λ (y : View). with_taken y (place_number (group_place id node parent)) (list_content above.list)) taken;
      child_place = own;
      above_place = up;
      low = low;
      parent = ap (group_place id node) is;
      told = told;
      told_above = subst (λ (y : View). IsTaken shape y (place_number (group_place id node parent)) (list_content above.list)) taken told-above;
    }))

-- the lists of the children of a group were moved in, if the seat knows that they are closed
pub children_moved : (shape : Shape) (v : View) (id node group : ℕ) (c : RoomContent) → group < groups_in shape → groups_in shape ≤ 256 → IsTaken shape v (place_number (group_place id node group)) c
    → ((child : ℕ) → is_child shape.parents.items group child ≡ true → KnowsClosed v (place_number (group_place id node child))) → AreChildrenMovedIn shape.parents.items group c.entries
children_moved shape v id node group c there groups told closed child is = let known = closed child is in let k : ℕ = place_number (group_place id node group) in
    each_of (λ (x : Known). (d : ℕ) → is_child shape.parents.items (group_of (place_number (group_place id node group))) d ≡ true → x.place ≡ beside (place_number (group_place id node group)) d → is_closed x.entries ≡ true → Contains (moved_in c.entries) d) v.traces.known
    (record { place = place_number (group_place id node child); entries = known.0 }) told.moved known.1 child
    (subst (λ (x : ℕ). is_child shape.parents.items x child ≡ true) (sym group-is) is) (omega (arith, there, groups)) known.2
  where
    group-is : group_of (place_number (group_place id node group)) ≡ group
    group-is = omega (arith, there, groups)

-- the parent's list took the child's objects
abbrev pub both_ready : (shape : Shape) (v x : View) (child above : Room) (new new_above : Listed) (objects : ℕ) (filled : Bool) → IsTree shape.parents.items → shape.nodes ≤ 4 → groups_in shape ≤ 256 → AreBothTaken shape v x child.place above.place child.list above.list
    → is_closed child.list.entries ≡ false → IsSound child.list → AreChildrenMovedIn shape.parents.items child.place.group child.list.entries
    → answer.HasRoom above.list child.list.items (answer.moved_entry child.list child.place.group) → answer.ListGains above.list new_above child.list.items (answer.moved_entry child.list child.place.group) → answer.ListGains child.list new [] Closed
    → filled ≡ (nat_lt 0 (length child.list.items) && nat_lt 0 above.place.group)
    → BothReady shape v x (record { place = child.place; list = new }) (record { place = above.place; list = new_above }) filled
both_ready shape v x child above new new_above objects filled tree nodes groups r opens sound children room moved closed filling = record {
  old = child.list;
  old_above = above.list;
  rooms = r;
  was_open = opens;
  few = let most = r.told.most_entries in let few = sound.open_entries opens in omega (arith, most, few);
  children = children;
  above_open = above_opens shape v x child.place above.place child.list above.list tree nodes groups r opens;
  apart = apart_from shape v x child.place above.place child.list above.list tree nodes groups r opens;
  room = room;
  closed = closed;
  moved = moved;
  filling = filling;
}

-- what one closing is
abbrev pub closing_of : ℕ → Listed → Listed → Closing
closing_of group old old_above = record { child = group; number = length old.entries; items = old.items; above_number = length old_above.entries; above_items = old_above.items }

-- what a closing gains, by the places' names
pub closing_gains : (shape : Shape) (v w : View) (id node group : ℕ) (child above : Place) (old old_above : Listed) (filled : Bool) → child ≡ group_place id node group → above ≡ group_place id node (parent_of shape.parents.items group) → filled ≡ (nat_lt 0 (length old.items) && nat_lt 0 (parent_of shape.parents.items group))
    → Gains v w (record { place = place_number above; number = length old_above.entries; entry = MovedIn child.group (length old.items); items = old_above.items } ∷ record { place = place_number child; number = length old.entries; entry = Closed; items = old.items } ∷ []) (cond filled (place_number above ∷ []) [])
    → Gains v w (made_by_closing shape.parents.items id node (closing_of group old old_above)) (bits_by shape.parents.items id node (closing_of group old old_above))
closing_gains shape v w id node group child above old old_above filled c a f g = subst (λ (b : Bool). Gains v w (made_by_closing shape.parents.items id node (closing_of group old old_above)) (cond b (place_number (group_place id node (parent_of shape.parents.items group)) ∷ []) [])) f
    (subst (λ (x : Place). Gains v w (record { place = place_number x; number = length old_above.entries; entry = MovedIn group (length old.items); items = old_above.items } ∷ record { place = place_number (group_place id node group); number = length old.entries; entry = Closed; items = old.items } ∷ []) (cond filled (place_number x ∷ []) [])) a
    (subst (λ (x : Place). Gains v w (record { place = place_number above; number = length old_above.entries; entry = MovedIn x.group (length old.items); items = old_above.items } ∷ record { place = place_number x; number = length old.entries; entry = Closed; items = old.items } ∷ []) (cond filled (place_number above ∷ []) [])) c g))

-- the child's room once its parent's was given back as it was
pub child_left : (u v w : View) (k : ℕ) (l : Listed) (p : ℕ) (d : RoomContent) → v ≡ with_taken (with_taken u k (list_content l)) p d → w ≡ with_given v p → IsInHand l (in_hand w k)
child_left u v w k l p d taken is = subst (λ (x : View). IsInHand l (in_hand x k)) (sym (is ∙ (ap (λ (x : View). with_given x p) taken ∙ given (with_taken (with_taken u k (list_content l)) p d) p d (with_taken u k (list_content l)).holding.hands refl))) (in_hand_whole u k l)
