-- SPDX-License-Identifier: GPL-2.0-only
-- What closing one list into its parent's needs and says.
use Rattle.shr_node.proofs.Common.{◌≡◌, ℕ, ◌<◌, Bool, true, false, cond, eqb, lt-ltb, eq-eqb, inr, List, [], ◌∷◌, ◌++◌, length, sym, refl, ap, subst, ◌∙◌, arith, length-append, ◌&&◌, ◌||◌, nat_lt, Place, Closed, MovedIn, place_number, parent_of, is_child, is_closed, AreChildrenMovedIn, IsAtOrAbove-refl, Listed, IsSound, Core, View, Room, RoomContent, Holding, no_rooms, group_of, list_content, groups_in, MayTake, Seated, shape_of, view_of, IsTaken, IsCounted, with_taken, with_given, Gains, Knows, KnowsClosed, group_place, AreBothTaken, ltb, Hand}
use Rattle.shr_model.proofs.ListLaws.{is_closed_push}
use Rattle.shr_list.specs.Answers as answer
use Rattle.shr_node.specs.Closes.{ClosesOne, WasClosed}
use Rattle.shr_node.proofs.Storing.{BothReady, with_both_kept}
use Rattle.shr_node.proofs.Gaining.{gains_given, known_given}
use Rattle.shr_node.proofs.Acting.{was_left}
use Rattle.shr_node.proofs.Pairing.{gains_both, knows_both}
use Rattle.shr_node.proofs.Closing.{are_taken, both_ready, children_moved, above_counted, closing_of, closing_gains, counted_taken}

-- with the child's room in hand its parent's may be taken
pub may_take_above : (s t : Seated) (core : Core) (id node group parent : ℕ) (content : RoomContent) → (view_of s).holding ≡ no_rooms → t ≡ record s { view = with_taken (view_of s) (place_number (group_place id node group)) content } → (0 < group) × (group < groups_in (shape_of s.core)) → core ≡ t.core → parent ≡ parent_of (shape_of core).parents.items group
    → MayTake (shape_of t.core) (view_of t) (group_place id node parent)
may_take_above s t core id node group parent content none taken low table told = let parents : List ℕ = (shape_of s.core).parents.items in let k : ℕ = place_number (group_place id node group) in let hand : Hand = record { room = k; content = content } in
    let is : parent ≡ parent_of parents group = told ∙ ap (λ (x : Core). parent_of (shape_of x).parents.items group) (table ∙ ap (λ (x : Seated). x.core) taken) in
    let near : group < 256 = let there = low.1 in let few = s.core.limits.4 in omega (arith, there, few) in let lower = s.core.tree.lower group low.0 low.1 in
    let child : is_child parents parent group ≡ true = ap (λ (b : Bool). b && ltb group (length parents) && eqb (parent_of parents group) parent) (lt-ltb 0 group low.0)
    ∙ (ap (λ (b : Bool). b && eqb (parent_of parents group) parent) (lt-ltb group (length parents) low.1) ∙ eq-eqb (parent_of parents group) parent (sym is)) in
    let own : group_of k ≡ group = omega (arith, near) in
    subst (λ (x : Seated). MayTake (shape_of x.core) (view_of x) (group_place id node parent)) (sym taken) (inr (
      hand,
      ap (λ (h : Holding). hand ∷ h.hands) none,
      omega (arith, near, lower, is),
      subst (λ (x : ℕ). is_child parents parent x ≡ true) (sym own) child,
    ))

-- both rooms were taken, the child's and then its parent's
pub pair_taken : (s t x : Seated) (core : Core) (id node group parent : ℕ) (child above : Room) → (view_of s).holding ≡ no_rooms → (id < (shape_of s.core).ids) × (node < (shape_of s.core).nodes) → (0 < group) × (group < groups_in (shape_of s.core)) → core ≡ t.core
    → parent ≡ parent_of (shape_of core).parents.items group → child.place ≡ group_place id node group → t ≡ record s { view = with_taken (view_of s) (place_number (group_place id node group)) (list_content child.list) } → IsTaken (shape_of s.core) (view_of s) (place_number (group_place id node group)) (list_content child.list)
    → above.place ≡ group_place id node parent → x ≡ record t { view = with_taken (view_of t) (place_number (group_place id node parent)) (list_content above.list) } → IsTaken (shape_of t.core) (view_of t) (place_number (group_place id node parent)) (list_content above.list)
    → AreBothTaken (shape_of s.core) (view_of s) (view_of x) child.place above.place child.list above.list
pair_taken s t x core id node group parent child above none place low table same child-place taken told above-place taken-above told-above = let is = same ∙ ap (λ (y : Core). parent_of (shape_of y).parents.items group) (table ∙ ap (λ (y : Seated). y.core) taken) in
    are_taken (shape_of s.core) (view_of s) (view_of t) (view_of x) id node group parent child above none
    (record { id = place.0; node = place.1; group = low.1 })
    (record { id = place.0; node = place.1; group = let lower = s.core.tree.lower group low.0 low.1 in let there = low.1 in omega (arith, lower, is, there) })
    low.0 is child-place (ap (λ (y : Seated). y.view) taken) told above-place (ap (λ (y : Seated). y.view) taken-above)
    (subst (λ (y : Core). IsTaken (shape_of y) (view_of t) (place_number (group_place id node parent)) (list_content above.list)) (ap (λ (y : Seated). y.core) taken) told-above)

-- the list was closed before
pub was_closed : (v w x : View) (id node group : ℕ) (room : Room) → room.place ≡ group_place id node group → w ≡ with_taken v (place_number (group_place id node group)) (list_content room.list) → x ≡ with_given w (place_number room.place) → is_closed room.list.entries ≡ true → WasClosed v x id node group
was_closed v w x id node group room same taken left closed = let k : ℕ = place_number (group_place id node group) in let is = was_left v w x (group_place id node group) room same taken left in record {
  gains = subst (λ (y : View). Gains v y [] []) (sym is) (gains_given v k (list_content room.list));
  known = (room.list.entries, subst (λ (y : View). Knows y k room.list.entries) (sym is) (known_given v k (list_content room.list)), closed);
}

module _ (core : Core) (v x : View) (id node group : ℕ) (child above : Room) (taken : AreBothTaken (shape_of core) v x child.place above.place child.list above.list) (low : (0 < group) × (group < groups_in (shape_of core)))
    (child-place : child.place ≡ group_place id node group) (told : IsTaken (shape_of core) v (place_number (group_place id node group)) (list_content child.list)) (opens : is_closed child.list.entries ≡ false) (sound : IsSound child.list)
    (children : (c : ℕ) → is_child (shape_of core).parents.items group c ≡ true → KnowsClosed v (place_number (group_place id node c)))
    (new new_above : Listed) (objects : ℕ) (filled : Bool) (moved : (objects ≡ length child.list.items) × answer.HasRoom above.list child.list.items (answer.moved_entry child.list group) × answer.ListGains above.list new_above child.list.items (answer.moved_entry child.list group) × answer.ListGains child.list new [] Closed)
    (filling : filled ≡ (nat_lt 0 objects && nat_lt 0 above.place.group)) where
  -- what the seat needs to store both counts
  abbrev pub pair_ready : BothReady (shape_of core) v x (record { place = child.place; list = new }) (record { place = above.place; list = new_above }) filled
  pair_ready = both_ready (shape_of core) v x child above new new_above objects filled core.tree core.limits.2 core.limits.4 taken opens sound
      (subst (λ (p : Place). AreChildrenMovedIn (shape_of core).parents.items p.group child.list.entries) (sym child-place) (children_moved (shape_of core) v id node group (list_content child.list) low.1 core.limits.4 told children))
      (subst (λ (p : Place). answer.HasRoom above.list child.list.items (answer.moved_entry child.list p.group)) (sym child-place) moved.1)
      (subst (λ (p : Place). answer.ListGains above.list new_above child.list.items (answer.moved_entry child.list p.group)) (sym child-place) moved.2)
      moved.3
      (filling ∙ λ i. nat_lt 0 (moved.0 i) && nat_lt 0 above.place.group)

  up : above.place ≡ group_place id node (parent_of (shape_of core).parents.items group)
  up = taken.parent ∙ ap (λ (p : Place). group_place p.id p.node (parent_of (shape_of core).parents.items p.group)) child-place

  -- what it says then
  pub closes_one : (w : View) → w ≡ with_both_kept x (record { place = child.place; list = new }) (record { place = above.place; list = new_above }) filled → ClosesOne (shape_of core) v w id node group objects
  closes_one w kept = record {
    closing = closing_of group child.list above.list;
    here = refl;
    count = moved.0;
    is = record {
      below = IsAtOrAbove-refl (shape_of core).parents.items core.tree group low.1;
      low = low.0;
      there = low.1;
      later = counted_taken (shape_of core) v (place_number (group_place id node group)) child.list told;
      above_later = subst (λ (p : Place). IsCounted (shape_of core) v (place_number p) (length above.list.items) (length above.list.entries)) up (above_counted (shape_of core) v x child.place above.place child.list above.list core.tree core.limits.2 core.limits.4 taken);
      room_entries = let fits = moved.1.entries in let most = taken.told_above.most_entries in omega (arith, fits, most);
      room_items = let fits = moved.1.items in let most = taken.told_above.most_items in omega (arith, fits, most, length-append child.list.items above.list.items);
    };
    gains = closing_gains (shape_of core) v w id node group child.place above.place child.list above.list filled child-place up
        (filling ∙ λ i. nat_lt 0 (moved.0 i) && nat_lt 0 (up i).group)
        (subst (λ (y : View). Gains v y (record { place = place_number above.place; number = length above.list.entries; entry = MovedIn child.place.group (length child.list.items); items = above.list.items } ∷ record { place = place_number child.place; number = length child.list.entries; entry = Closed; items = child.list.items } ∷ []) (cond filled (place_number above.place ∷ []) [])) (sym kept)
        (gains_both (shape_of core) v x (record { place = child.place; list = new }) (record { place = above.place; list = new_above }) filled core.tree core.limits.2 core.limits.4 pair_ready));
    known = (
      child.list.entries ++ Closed ∷ [],
      subst (λ (p : Place). Knows w (place_number p) (child.list.entries ++ Closed ∷ [])) child-place (subst (λ (y : View). Knows y (place_number child.place) (child.list.entries ++ Closed ∷ [])) (sym kept)
          (knows_both (shape_of core) v x (record { place = child.place; list = new }) (record { place = above.place; list = new_above }) filled core.tree core.limits.2 core.limits.4 pair_ready)),
      is_closed_push child.list.entries Closed ∙ ap (λ b. b || true) opens,
    );
  }
