-- SPDX-License-Identifier: GPL-2.0-only
-- A child's list is closed into its parent's, with both rooms in hand.
use Rattle.shr_node.proofs.Common.{◌≡◌, ◌≢◌, ℕ, ◌+◌, ◌*◌, ◌<◌, ◌≤◌, Bool, true, false, cond, List, [], ◌∷◌, ◌++◌, length, sym, refl, ap, subst, ◌∙◌, arith, length-append, append_assoc, eq-eqb, ne_eqb, lt-ltb, append-nil, dite, ℕ_discrete, ◌&&◌, ◌==◌, nat_lt, Option, None, Some, Contains-push, Object, Place, Entry, MovedIn, Closed, place_number, IsTree, parent_of, step, IsOutcome, is_closed, IsAllowed, child_again, times, without, Begins, begins_push, begins_more, times-without_same, times-without_other, View, Shape, Room, group_of, beside, list_content, has_room, groups_in, IsInHand, content_in, in_hand, with_content, with_taken, with_stored, with_set, with_given, owed_after, drained_after, last_entry, moved_in_hand, IsBacked, MayStore, has_taken, inside, Gains, Knows, total, only_yes, is_room, taken_in_hand}
use Rattle.std.proofs.lemmas.Bool.{ltb-true, eqb-true}
use Rattle.shr_model.proofs.PiecesLaws.{and_true}
use Rattle.shr_core.specs.Parts.{RoomContent, Hand, Holding, Made, Known, made as stored_event, raised as raised_event}
use Rattle.shr_node.proofs.Storing.{BothReady, with_both_stored, with_both_kept}
use Rattle.shr_node.proofs.Gaining.{gains_of, stored_view, stored, given, owed_raised, marks_stay}
use Rattle.shr_core.proofs.Storing.{last_pushed}

-- the content of the room below the one taken last
pub under_here : (p k : ℕ) (x c : RoomContent) (hs : List Hand) → p ≢ k → content_in k (record { room = p; content = x } ∷ record { room = k; content = c } ∷ hs) ≡ c
under_here p k x c hs ne = λ i. cond (ne_eqb p k ne i) x (cond (eq-eqb k k refl i) c (content_in k hs))

-- the room under the one that was taken last is in hand
pub has_under : (p k : ℕ) (x c : RoomContent) (hs : List Hand) → 0 < total (is_room k) (record { room = p; content = x } ∷ record { room = k; content = c } ∷ hs)
has_under p k x c hs = omega (arith, only_yes k k refl)

-- a list with one entry more
abbrev pub grown : RoomContent → Entry → List Object → RoomContent
grown c e items = record c { entries = c.entries ++ e ∷ []; items = items }

-- the view once both counts were stored
abbrev pub pair_view : View → ℕ → RoomContent → ℕ → RoomContent → Entry → List Object → View
pair_view u k c p d e items = record u {
  holding = record { hands = record { room = p; content = grown d e items } ∷ record { room = k; content = grown c Closed [] } ∷ u.holding.hands; half = None };
  traces = record u.traces { made = (u.traces.made ++ record { place = p; number = length d.entries; entry = e; items = d.items } ∷ []) ++ record { place = k; number = length c.entries; entry = Closed; items = c.items } ∷ [] };
  marks = record u.marks { owed = owed_after k (length c.items) 0 (owed_after p (length d.items) (length items) u.marks.owed) };
  did = (u.did ++ record { seat = u.seat; act = stored_event (record { place = p; number = length d.entries; entry = e; items = d.items }) } ∷ []) ++ record { seat = u.seat; act = stored_event (record { place = k; number = length c.entries; entry = Closed; items = c.items }) } ∷ [];
}

-- both stores of a splice, in one view
pub pair_stored : (u : View) (k : ℕ) (c : RoomContent) (p : ℕ) (d : RoomContent) (e : Entry) (items : List Object) → p ≢ k
    → with_stored (with_stored (with_taken (with_taken u k c) p d) p e items) k Closed [] ≡ pair_view u k c p d e items
pair_stored u k c p d e items ne = ap (λ (w : View). with_stored w k Closed []) (stored (with_taken u k c) p d e items) ∙ λ i. there (ne_eqb p k ne i) (eq-eqb k k refl i)
  where
    hs : List Hand
    hs = u.holding.hands

    there : Bool → Bool → View
    there b b' = let x : RoomContent = cond b (grown d e items) (cond b' c (content_in k u.holding.hands)) in record u {
      holding = record { hands = cond b (record { room = k; content = grown x Closed [] } ∷ record { room = k; content = c } ∷ u.holding.hands) (record { room = p; content = grown d e items } ∷ cond b' (record { room = k; content = grown x Closed [] } ∷ u.holding.hands) (record { room = k; content = c } ∷ with_content k (grown x Closed []) u.holding.hands)); half = None };
      traces = record u.traces { made = (u.traces.made ++ record { place = p; number = length d.entries; entry = e; items = d.items } ∷ []) ++ record { place = k; number = length x.entries; entry = Closed; items = x.items } ∷ [] };
      marks = record u.marks { owed = owed_after k (length x.items) 0 (owed_after p (length d.items) (length items) u.marks.owed) };
      did = (u.did ++ record { seat = u.seat; act = stored_event (record { place = p; number = length d.entries; entry = e; items = d.items }) } ∷ []) ++ record { seat = u.seat; act = stored_event (record { place = k; number = length x.entries; entry = Closed; items = x.items }) } ∷ [];
    }

module _ (shape : Shape) (u v : View) (child above : Room) (filled : Bool) (tree : IsTree shape.parents.items) (nodes : shape.nodes ≤ 4) (groups : groups_in shape ≤ 256) (b : BothReady shape u v child above filled) where
  abbrev k : ℕ
  k = place_number child.place

  abbrev p : ℕ
  p = place_number above.place

  abbrev c : RoomContent
  c = list_content b.old

  abbrev d : RoomContent
  d = list_content b.old_above

  abbrev e : Entry
  e = MovedIn child.place.group (length b.old.items)

  -- the places of a child and its parent
  group_above : above.place.group ≡ parent_of shape.parents.items child.place.group
  group_above = ap (λ (x : Place). x.group) b.rooms.parent

  p_is : place_number above.place ≡ 1024 * child.place.id + 256 * child.place.node + parent_of shape.parents.items child.place.group
  p_is = ap place_number b.rooms.parent

  parent_lower : parent_of shape.parents.items child.place.group < child.place.group
  parent_lower = tree.lower child.place.group b.rooms.low b.rooms.child_place.group

  -- a child's place is not its parent's
  pub apart_numbers : place_number above.place ≢ place_number child.place
  apart_numbers same = let lower = parent_lower in let is = p_is in omega (arith, lower, is, same)

  child_under : beside (place_number above.place) child.place.group ≡ place_number child.place
  child_under = let is = p_is in let lower = parent_lower in let there = b.rooms.child_place.group in omega (arith, is, lower, there, groups)

  group_k : group_of (place_number child.place) ≡ child.place.group
  group_k = let there = b.rooms.child_place.group in omega (arith, there, groups)

  group_p : group_of (place_number above.place) ≡ above.place.group
  group_p = let there = b.rooms.above_place.group in omega (arith, there, groups)

  last_above : last_entry above.list.entries ≡ MovedIn child.place.group (length b.old.items)
  last_above = ap last_entry b.moved.entries ∙ last_pushed b.old_above.entries e

  last_child : last_entry child.list.entries ≡ Closed
  last_child = ap last_entry b.closed.entries ∙ last_pushed b.old.entries Closed

  taken : View
  taken = with_taken (with_taken u (place_number child.place) (list_content b.old)) (place_number above.place) (list_content b.old_above)

  above_hand : in_hand (with_taken (with_taken u k c) p d) p ≡ d
  above_hand = taken_in_hand (with_taken u k c) p d

  child_hand : in_hand (with_taken (with_taken u k c) p d) (beside p child.place.group) ≡ c
  child_hand = ap (in_hand (with_taken (with_taken u k c) p d)) child_under ∙ under_here p k d c u.holding.hands apart_numbers

  -- the parent's count may be stored
  above_store : MayStore shape (with_taken (with_taken u k c) p d) p above.list
  above_store = let w : View = with_taken (with_taken u k c) p d in let old-entries : (in_hand w p).entries ≡ b.old_above.entries = ap (λ (x : RoomContent). x.entries) above_hand in let old-items : (in_hand w p).items ≡ b.old_above.items = ap (λ (x : RoomContent). x.items) above_hand in
      let moved : moved_in_hand w p (last_entry above.list.entries) ≡ b.old.items = ap (moved_in_hand w p) last_above ∙ ap (λ (x : RoomContent). x.items) child_hand in record {
        inside = inside shape above.place b.rooms.above_place nodes groups;
        room = has_taken (with_taken u k c) p d;
        entries = b.moved.entries ∙ sym (λ i. old-entries i ++ last_above i ∷ []);
        stands = record {
          «open» = ap is_closed old-entries ∙ b.above_open;
          allowed = subst (λ (x : Entry). IsAllowed shape.parents.items (group_of p) (in_hand w p).entries x) (sym last_above)
              (subst (λ (es : List Entry). IsAllowed shape.parents.items (group_of p) es e) (sym old-entries)
              (subst (λ (x : ℕ). IsAllowed shape.parents.items x b.old_above.entries e) (sym (group_p ∙ group_above))
              (child_again shape.parents.items (parent_of shape.parents.items child.place.group) child.place.group (record { above = b.rooms.low; there = b.rooms.child_place.group; parent = refl }), b.apart)));
        };
        outcome = subst (λ (m : List Object). IsOutcome m (in_hand w p).items (last_entry above.list.entries)) (sym moved)
            (subst (λ (is : List Object). IsOutcome b.old.items is (last_entry above.list.entries)) (sym old-items)
            (subst (λ (x : Entry). IsOutcome b.old.items b.old_above.items x) (sym last_above) b.moved.outcome));
        items = b.moved.items ∙ sym (λ i. step (moved i) (old-items i) (last_above i));
        backed = subst (λ (x : Entry). IsBacked shape w p x) (sym last_above) (
          ap (λ (h : Holding). h.half) b.rooms.none,
          subst (λ (x : ℕ). 0 < has_room x w.holding) (sym child_under) (has_under p k d c u.holding.hands),
          ap (λ (x : RoomContent). is_closed x.entries) child_hand ∙ b.was_open,
        );
        few_items = let fit = b.room.items in let most = b.rooms.told_above.most_items in omega (arith, fit, ap (length {A = Object}) b.moved.items, most);
        few_entries = let fit = b.room.entries in let most = b.rooms.told_above.most_entries in omega (arith, fit, ap (length {A = Entry}) b.moved.entries, length-append b.old_above.entries (e ∷ []), most);
      }

  -- the parent's MovedIn may be stored
  pub may_above : MayStore shape v p above.list
  may_above = subst (λ (x : View). MayStore shape x p above.list) (sym b.rooms.taken) above_store

  -- the view then
  first_is : with_stored v p (last_entry above.list.entries) above.list.items ≡ stored_view (with_taken u k c) p d e above.list.items
  first_is = (λ i. with_stored (b.rooms.taken i) p (last_above i) above.list.items) ∙ stored (with_taken u k c) p d e above.list.items

  -- the child's count may be stored
  child_store : MayStore shape (stored_view (with_taken u k c) p d e above.list.items) k child.list
  child_store = let w : View = stored_view (with_taken u k c) p d e above.list.items in let hand : in_hand w k ≡ c = under_here p k (grown d e above.list.items) c u.holding.hands apart_numbers in let old-entries : (in_hand w k).entries ≡ b.old.entries = ap (λ (x : RoomContent). x.entries) hand in record {
    inside = inside shape child.place b.rooms.child_place nodes groups;
    room = has_under p k (grown d e above.list.items) c u.holding.hands;
    entries = b.closed.entries ∙ sym (λ i. old-entries i ++ last_child i ∷ []);
    stands = record {
      «open» = ap is_closed old-entries ∙ b.was_open;
      allowed = subst (λ (x : Entry). IsAllowed shape.parents.items (group_of k) (in_hand w k).entries x) (sym last_child)
          (subst (λ (es : List Entry). IsAllowed shape.parents.items (group_of k) es Closed) (sym old-entries)
          (subst (λ (x : ℕ). IsAllowed shape.parents.items x b.old.entries Closed) (sym group_k)
          ((λ zero. let low = b.rooms.low in omega (arith, low, zero)), b.children)));
    };
    outcome = subst (λ (x : Entry). IsOutcome (moved_in_hand w k x) (in_hand w k).items x) (sym last_child) tt;
    items = b.closed.items ∙ sym (ap (λ (x : Entry). step (moved_in_hand w k x) (in_hand w k).items x) last_child);
    backed = subst (λ (x : Entry). IsBacked shape w k x) (sym last_child) (ap (λ (x : ℕ). Some x) child_under);
    few_items = omega (arith, ap (length {A = Object}) b.closed.items);
    few_entries = let few = b.few in omega (arith, few, ap (length {A = Entry}) b.closed.entries, length-append b.old.entries (Closed ∷ []));
  }

  -- and then the child's Closed
  pub may_child : MayStore shape (with_stored v p (last_entry above.list.entries) above.list.items) k child.list
  may_child = subst (λ (x : View). MayStore shape x k child.list) (sym first_is) child_store

  -- the view once both are stored
  abbrev both : View
  both = pair_view u k c p d e above.list.items

  second_is : with_stored (with_stored v p (last_entry above.list.entries) above.list.items) k (last_entry child.list.entries) child.list.items ≡ both
  second_is = (λ i. with_stored (with_stored (b.rooms.taken i) p (last_above i) above.list.items) k (last_child i) (b.closed.items i)) ∙ pair_stored u k c p d e above.list.items apart_numbers

  raised_is : (f : Bool) → with_both_stored v child above f ≡ cond f (with_set both p) both
  raised_is f = ap (λ (w : View). cond f (with_set w p) w) second_is

  -- the view after the two stores and the bit, by one step after the other
  pub stored_raised : (f : Bool) (first second w : View) → first ≡ with_stored v p (last_entry above.list.entries) above.list.items → second ≡ with_stored first k (last_entry child.list.entries) child.list.items → w ≡ cond f (with_set second p) second → w ≡ with_both_stored v child above f
  stored_raised f first second w one two three = three ∙ ap (λ (x : View). cond f (with_set x p) x) (two ∙ ap (λ (x : View). with_stored x k (last_entry child.list.entries) child.list.items) one)

  -- the hands then
  hands : (f : Bool) → (cond f (with_set both p) both).holding ≡ both.holding
  hands true = refl
  hands false = refl

  above_given : (f : Bool) → with_given (cond f (with_set both p) both) p ≡ record (cond f (with_set both p) both) {
    holding = record (cond f (with_set both p) both).holding { hands = record { room = k; content = grown c Closed [] } ∷ u.holding.hands };
    traces = record (cond f (with_set both p) both).traces { known = (cond f (with_set both p) both).traces.known ++ record { place = p; entries = b.old_above.entries ++ e ∷ [] } ∷ [] };
    claims = record (cond f (with_set both p) both).claims { drained = drained_after (cond f (with_set both p) both).claims p above.list.items };
  }
  above_given f = given (cond f (with_set both p) both) p (grown d e above.list.items) (record { room = k; content = grown c Closed [] } ∷ u.holding.hands) (ap (λ (h : Holding). h.hands) (hands f))

  -- the parent's room may be given back: it is in hand
  pub back_has : (f : Bool) (w : View) → w ≡ with_both_stored v child above f → 0 < has_room p w.holding
  back_has f w is = subst (λ (x : View). 0 < has_room p x.holding) (sym (is ∙ raised_is f)) (subst (λ (h : Holding). 0 < has_room p h) (sym (hands f)) (omega (arith, only_yes p p refl)))

  -- and no splice is in progress
  pub back_whole : (f : Bool) (w : View) → w ≡ with_both_stored v child above f → w.holding.half ≡ None
  back_whole f w is = ap (λ (x : View). x.holding.half) (is ∙ raised_is f) ∙ ap (λ (h : Holding). h.half) (hands f)

  -- and its list is what was stored
  pub back_same : (f : Bool) (w : View) → w ≡ with_both_stored v child above f → IsInHand above.list (in_hand w p)
  back_same f w is = subst (λ (x : View). IsInHand above.list (in_hand x p)) (sym (is ∙ raised_is f)) (subst (λ (h : Holding). IsInHand above.list (content_in p h.hands)) (sym (hands f))
      (subst (λ (x : RoomContent). IsInHand above.list x) (sym (ap (λ t. cond t (grown d e above.list.items) (content_in p (record { room = k; content = grown c Closed [] } ∷ u.holding.hands))) (eq-eqb p p refl)))
      (record { entries = b.moved.entries; items = refl; most_items = b.moved.most_items; most_entries = b.moved.most_entries })))

  -- and once the parent's room is given back
  child_holding : (f : Bool) (w : View) → w ≡ with_given (with_both_stored v child above f) p → w.holding ≡ record { hands = record { room = k; content = grown c Closed [] } ∷ u.holding.hands; half = None }
  child_holding f w is = ap (λ (x : View). x.holding) (is ∙ (ap (λ (x : View). with_given x p) (raised_is f) ∙ above_given f)) ∙ ap (λ (h : Holding). record { hands = record { room = k; content = grown c Closed [] } ∷ u.holding.hands; half = h.half }) (hands f)

  -- the child's room may be given back: it is in hand
  pub last_has : (f : Bool) (w : View) → w ≡ with_given (with_both_stored v child above f) p → 0 < has_room k w.holding
  last_has f w is = subst (λ (h : Holding). 0 < has_room k h) (sym (child_holding f w is)) (omega (arith, only_yes k k refl))

  pub last_whole : (f : Bool) (w : View) → w ≡ with_given (with_both_stored v child above f) p → w.holding.half ≡ None
  last_whole f w is = ap (λ (h : Holding). h.half) (child_holding f w is)

  pub last_same : (f : Bool) (w : View) → w ≡ with_given (with_both_stored v child above f) p → IsInHand child.list (in_hand w k)
  last_same f w is = subst (λ (h : Holding). IsInHand child.list (content_in k h.hands)) (sym (child_holding f w is))
      (subst (λ (x : RoomContent). IsInHand child.list x) (sym (ap (λ t. cond t (grown c Closed []) (content_in k u.holding.hands)) (eq-eqb k k refl)))
      (record { entries = b.closed.entries; items = b.closed.items; most_items = b.closed.most_items; most_entries = b.closed.most_entries }))

  -- what the seat gains by it
  made : List Made
  made = record { place = p; number = length b.old_above.entries; entry = e; items = b.old_above.items } ∷ record { place = k; number = length b.old.entries; entry = Closed; items = b.old.items } ∷ []

  abbrev final : Bool → View
  final f = let s : View = cond f (with_set both p) both in record s {
    holding = record { hands = u.holding.hands; half = s.holding.half };
    traces = record s.traces { known = (s.traces.known ++ record { place = p; entries = b.old_above.entries ++ e ∷ [] } ∷ []) ++ record { place = k; entries = b.old.entries ++ Closed ∷ [] } ∷ [] };
    claims = record s.claims { drained = drained_after (record s.claims { drained = drained_after s.claims p above.list.items }) k [] };
  }

  final_is : with_both_kept v child above filled ≡ final filled
  final_is = ap (λ (w : View). with_given (with_given w p) k) (raised_is filled) ∙ (ap (λ (w : View). with_given w k) (above_given filled) ∙ given w4 k (grown c Closed []) u.holding.hands refl)
    where
      s : View
      s = cond filled (with_set both p) both

      w4 : View
      w4 = record (cond filled (with_set both p) both) {
        holding = record (cond filled (with_set both p) both).holding { hands = record { room = k; content = grown c Closed [] } ∷ u.holding.hands };
        traces = record (cond filled (with_set both p) both).traces { known = (cond filled (with_set both p) both).traces.known ++ record { place = p; entries = b.old_above.entries ++ e ∷ [] } ∷ [] };
        claims = record (cond filled (with_set both p) both).claims { drained = drained_after (cond filled (with_set both p) both).claims p above.list.items };
      }

  -- an emptied list is not owed, and a filled one is
  emptied_owed : (owed : List ℕ) → owed_after k (length b.old.items) 0 owed ≡ owed
  emptied_owed owed = by (length b.old.items == 0) where
    by : (q : Bool) → cond (q && nat_lt 0 0 && nat_lt 0 (group_of k)) (owed ++ k ∷ []) owed ≡ owed
    by true = refl
    by false = refl

  filled_only : filled ≡ false → owed_after p (length b.old_above.items) (length above.list.items) u.marks.owed ≡ u.marks.owed
  filled_only none = by ((length b.old_above.items == 0) && nat_lt 0 (length above.list.items) && nat_lt 0 (group_of p)) refl where
    by : (r : Bool) → ((length b.old_above.items == 0) && nat_lt 0 (length above.list.items) && nat_lt 0 (group_of p)) ≡ r → cond r (u.marks.owed ++ p ∷ []) u.marks.owed ≡ u.marks.owed
    by false is = refl
    by true is = let first = and_true ((length b.old_above.items == 0) && nat_lt 0 (length above.list.items)) (nat_lt 0 (group_of p)) is in let second = and_true (length b.old_above.items == 0) (nat_lt 0 (length above.list.items)) first.0 in
        let empty : length b.old_above.items ≡ 0 = eqb-true (length b.old_above.items) 0 second.0 in let some : 0 < length above.list.items = ltb-true 0 (length above.list.items) second.1 in let low : 0 < group_of p = ltb-true 0 (group_of p) first.1 in
        let given-some : 0 < length b.old.items = omega (arith, empty, some, ap (length {A = Object}) b.moved.items, length-append b.old.items b.old_above.items) in
        let yes : filled ≡ true = b.filling ∙ λ i. lt-ltb 0 (length b.old.items) given-some i && lt-ltb 0 above.place.group (omega (arith, low, group_p)) i in
        let clash : true ≡ false = sym yes ∙ none in absurd (cc)

  without_owed : (j : ℕ) (owed : List ℕ) → 0 < times j (without p owed) → 0 < times j owed
  without_owed j owed h = dite (ℕ_discrete j p)
      (λ e. absurd (omega (arith, h, ap (λ (x : ℕ). times x (without p owed)) e, times-without_same p owed)))
      (λ n. omega (arith, h, times-without_other j p owed n))

  raised_owed : (j : ℕ) → 0 < times j (without p (owed_after p (length b.old_above.items) (length above.list.items) u.marks.owed)) → 0 < times j u.marks.owed
  raised_owed j = by ((length b.old_above.items == 0) && nat_lt 0 (length above.list.items) && nat_lt 0 (group_of p)) where
    by : (r : Bool) → 0 < times j (without p (cond r (u.marks.owed ++ p ∷ []) u.marks.owed)) → 0 < times j u.marks.owed
    by true h = owed_raised p j u.marks.owed h
    by false h = without_owed j u.marks.owed h

  -- what the splice of one list gains
  pub gains_both : Gains u (with_both_kept v child above filled) (record { place = p; number = length b.old_above.entries; entry = e; items = b.old_above.items } ∷ record { place = k; number = length b.old.entries; entry = Closed; items = b.old.items } ∷ []) (cond filled (p ∷ []) [])
  gains_both = subst (λ (w : View). Gains u w (record { place = p; number = length b.old_above.entries; entry = e; items = b.old_above.items } ∷ record { place = k; number = length b.old.entries; entry = Closed; items = b.old.items } ∷ []) (cond filled (p ∷ []) [])) (sym final_is) (by filled refl)
    where
      m : Made
      m = record { place = p; number = length b.old_above.entries; entry = e; items = b.old_above.items }

      n : Made
      n = record { place = k; number = length b.old.entries; entry = Closed; items = b.old.items }

      known : Begins u.traces.known ((u.traces.known ++ record { place = p; entries = b.old_above.entries ++ e ∷ [] } ∷ []) ++ record { place = k; entries = b.old.entries ++ Closed ∷ [] } ∷ [])
      known = let one : List Known = u.traces.known ++ record { place = p; entries = b.old_above.entries ++ e ∷ [] } ∷ [] in begins_more u.traces.known one (one ++ record { place = k; entries = b.old.entries ++ Closed ∷ [] } ∷ []) (begins_push u.traces.known (record { place = p; entries = b.old_above.entries ++ e ∷ [] })) (begins_push one (record { place = k; entries = b.old.entries ++ Closed ∷ [] }))

      marks : (u.claims.owner ≡ None) → drained_after (record u.claims { drained = drained_after u.claims p above.list.items }) k [] ≡ u.claims.drained
      marks free = marks_stay (record u.claims { drained = drained_after u.claims p above.list.items }) k [] free ∙ marks_stay u.claims p above.list.items free

      by : (f : Bool) → filled ≡ f → Gains u (final f) (record { place = p; number = length b.old_above.entries; entry = e; items = b.old_above.items } ∷ record { place = k; number = length b.old.entries; entry = Closed; items = b.old.items } ∷ []) (cond f (p ∷ []) [])
      by true is = gains_of _ _ _ _ (record {
        made = append_assoc u.traces.made (m ∷ []) (n ∷ []);
        known = known;
        seen = refl;
        tries = refl;
        sets = refl;
        cleared = refl;
        maps = refl;
        owed = λ j h. raised_owed j (subst (λ (l : List ℕ). 0 < times j (without p l)) (emptied_owed (owed_after p (length b.old_above.items) (length above.list.items) u.marks.owed)) h);
        holding = ap (λ (x : Option ℕ). record u.holding { half = x }) (sym (ap (λ (h : Holding). h.half) b.rooms.none));
        claims = refl;
        marks = λ free. ap (λ (l : List ℕ). record u.claims { drained = l }) (marks free);
        turns = refl;
        standing = refl;
        did = stored_event m ∷ stored_event n ∷ raised_event p ∷ [];
        noted = append_assoc (u.did ++ (record { seat = u.seat; act = stored_event m } ∷ [])) (record { seat = u.seat; act = stored_event n } ∷ []) (record { seat = u.seat; act = raised_event p } ∷ []) ∙ append_assoc u.did (record { seat = u.seat; act = stored_event m } ∷ []) (record { seat = u.seat; act = stored_event n } ∷ record { seat = u.seat; act = raised_event p } ∷ []);
        kinds = record { seen = refl; made = refl; attempts = refl; loaded = refl; turns = refl; sets = refl; cleared = refl; maps = refl };
        seat = refl;
        uses = λ u. refl;
      })
      by false is = gains_of _ _ _ _ (record {
        made = append_assoc u.traces.made (m ∷ []) (n ∷ []);
        known = known;
        seen = refl;
        tries = refl;
        sets = sym (append-nil u.marks.sets);
        cleared = refl;
        maps = refl;
        owed = λ j h. subst (λ (l : List ℕ). 0 < times j l) (emptied_owed (owed_after p (length b.old_above.items) (length above.list.items) u.marks.owed) ∙ filled_only is) h;
        holding = ap (λ (x : Option ℕ). record u.holding { half = x }) (sym (ap (λ (h : Holding). h.half) b.rooms.none));
        claims = refl;
        marks = λ free. ap (λ (l : List ℕ). record u.claims { drained = l }) (marks free);
        turns = refl;
        standing = refl;
        did = stored_event m ∷ stored_event n ∷ [];
        noted = append_assoc u.did (record { seat = u.seat; act = stored_event m } ∷ []) (record { seat = u.seat; act = stored_event n } ∷ []);
        kinds = record { seen = refl; made = refl; attempts = refl; loaded = refl; turns = refl; sets = refl; cleared = refl; maps = refl };
        seat = refl;
        uses = λ u. refl;
      })

  -- and the child is known to be closed
  pub knows_both : Knows (with_both_kept v child above filled) k (b.old.entries ++ Closed ∷ [])
  knows_both = subst (λ (w : View). Knows w k (b.old.entries ++ Closed ∷ [])) (sym final_is) (by filled)
    where
      by : (f : Bool) → Knows (final f) k (b.old.entries ++ Closed ∷ [])
      by true = Contains-push (u.traces.known ++ record { place = p; entries = b.old_above.entries ++ e ∷ [] } ∷ []) (record { place = k; entries = b.old.entries ++ Closed ∷ [] })
      by false = Contains-push (u.traces.known ++ record { place = p; entries = b.old_above.entries ++ e ∷ [] } ∷ []) (record { place = k; entries = b.old.entries ++ Closed ∷ [] })
