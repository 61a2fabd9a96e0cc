-- SPDX-License-Identifier: GPL-2.0-only
-- Acting on the first open list, and giving its room back.
use Rattle.shr_node.proofs.Common.{◌≡◌, ℕ, zero, suc, ◌<◌, ◌≤◌, Bool, true, false, cond, List, [], ◌∷◌, ◌++◌, length, sym, refl, ap, subst, ◌∙◌, inl, arith, length-append, ne_eqb, not_some, append-nil, Contains, Option, Some, ◌&&◌, ◌==◌, nat_lt, Object, Place, Serial, Entry, Add, Look, Drop, Pin, Scan, MovedIn, Closed, Drained, place_number, at_group, IsTree, is_child, named_in, step, IsOutcome, is_closed, drop_kind_of, moved_in, IsAllowed, child_takes, child_higher, IsAtOrAbove-le, IsAtOrAbove-refl, Listed, Policy, Takes, RefusesWorn, LacksMemory, TellsScan, scan_entry, drain_entry, Each, View, Shape, Room, RoomContent, Holding, Made, Known, Claims, no_rooms, place_id, group_of, beside, AreBorn, list_content, groups_in, Core, IsPlaceOfShape, MayTake, shape_of, IsInHand, with_taken, with_given, in_hand, IsTaken, last_entry, half_after, moved_in_hand, IsBacked, has_taken, inside, Gains, Knows, bits_for, with_kept, NodeAnswer, IsFirstOpen, IsOpened, WasOpen, IsRoomReady, IsUntouched, entry_made, Acts, LackedRoom, HadRoom, ScansPlace, IsBornAt, HasRoom, IsWorn, Counted, IsUnspliced, taken_in_hand, TenantGives, TenantIsWorn, TenantLacks}
use Rattle.shr_base.specs.declared.journals.DropKind.TheVariants.{Dropped, Pinned}
use Rattle.shr_base.specs.declared.replies.Spent.TheVariants as spent
use Rattle.shr_node.specs.declared.answers.NodeAnswer.TheVariants as answers
use Rattle.shr_model.specs.TenantEntries.{birth_of}
use Rattle.shr_model.specs.Objects.{holds, is_named}
use Rattle.shr_model.specs.Scan.{scan_of}
use Rattle.shr_model.proofs.ObjectLaws.{is_some_find}
use Rattle.std.specs.Prelude.{None, is_some, option_map}
use Rattle.shr_core.proofs.Emptiness.{step_none}
use Rattle.shr_node.proofs.Gaining.{same_seen, gains_none, gains_then, gains_given, known_given, gains_kept, known_kept, knows_still, each_before}
use Rattle.shr_core.proofs.Storing.{last_pushed}
use Rattle.shr_model.proofs.Lists.{some_same}

-- a seat without a room in hand may take any
pub bare_hands : (shape : Shape) (v : View) (place : Place) → v.holding ≡ no_rooms → MayTake shape v place
bare_hands shape v place none = inl (ap (λ (h : Holding). h.hands) none)

-- an open room was taken on the way
pub opened_here : (shape : Shape) (v u w : View) (id node birth : ℕ) (place : Place) (room : Room) → room.place ≡ place → Gains v u [] [] → IsFirstOpen shape u id node birth place
    → w ≡ with_taken u (place_number place) (list_content room.list) → IsTaken shape u (place_number place) (list_content room.list) → is_closed room.list.entries ≡ false → IsOpened shape v w id node birth room
opened_here shape v u w id node birth place room same gains first taken told opens = record {
  before = u;
  gains = gains;
  first = subst (λ p. IsFirstOpen shape u id node birth p) (sym same) first;
  taken = subst (λ (p : Place). w ≡ with_taken u (place_number p) (list_content room.list)) (sym same) taken;
  told = subst (λ (p : Place). IsTaken shape u (place_number p) (list_content room.list)) (sym same) told;
  «open» = opens;
}

-- what was taken is in hand
pub in_hand_whole : (v : View) (k : ℕ) (l : Listed) → IsInHand l (in_hand (with_taken v k (list_content l)) k)
in_hand_whole v k l = let e = taken_in_hand v k (list_content l) in record {
  entries = ap (λ (c : RoomContent). c.entries) (sym e);
  items = ap (λ (c : RoomContent). c.items) (sym e);
  most_items = ap (λ (c : RoomContent). c.most_items) (sym e);
  most_entries = ap (λ (c : RoomContent). c.most_entries) (sym e);
}

-- an entry of no splice: nothing is moved, no splice begins or ends, and the seat may store it
pub record IsPlain (shape : Shape) (v : View) (k : ℕ) (e : Entry) : Type 0 where
  pub moved : moved_in_hand v k e ≡ []
  pub half : (h : Option ℕ) → half_after h k e ≡ h
  pub backed : IsUnspliced shape v k → IsBacked shape v k e

-- a tenant's entry is plain, and may stand where its birth group says
pub tenant_plain : (shape : Shape) (v : View) (k : ℕ) (e : Entry) (birth : ℕ) → birth_of e ≡ Some birth → birth < groups_in shape → v.claims.held ≡ Some (place_id k) → IsPlain shape v k e
tenant_plain shape v k (Add by b added key value) birth h far holds = record { moved = refl; half = λ x. refl; backed = λ free. (holds, subst (λ (x : ℕ). x < groups_in shape) (sym (some_same b birth h)) far, free) }
tenant_plain shape v k (Look by b key hit) birth h far holds = record { moved = refl; half = λ x. refl; backed = λ free. free }
tenant_plain shape v k (Drop by b key kind) birth h far holds = record { moved = refl; half = λ x. refl; backed = λ free. free }
tenant_plain shape v k (Pin by b key pinned hit) birth h far holds = record { moved = refl; half = λ x. refl; backed = λ free. free }
tenant_plain shape v k (Scan worker walk asked policy visits freed stopped) birth h far holds = absurd (cc)
tenant_plain shape v k (MovedIn child objects) birth h far holds = absurd (cc)
tenant_plain shape v k Closed birth h far holds = absurd (cc)
tenant_plain shape v k (Drained by objects) birth h far holds = absurd (cc)

-- a tenant's entry may stand in the journal of the first open list
pub tenant_allowed : (parents : List ℕ) (group : ℕ) (before : List Entry) (e : Entry) (birth : ℕ) → birth_of e ≡ Some birth → IsBornAt parents group before birth → IsAllowed parents group before e
tenant_allowed parents group before (Add by b added key value) birth h born = subst (λ (x : ℕ). IsBornAt parents group before x) (sym (some_same b birth h)) born
tenant_allowed parents group before (Look by b key hit) birth h born = subst (λ (x : ℕ). IsBornAt parents group before x) (sym (some_same b birth h)) born
tenant_allowed parents group before (Drop by b key kind) birth h born = subst (λ (x : ℕ). IsBornAt parents group before x) (sym (some_same b birth h)) born
tenant_allowed parents group before (Pin by b key pinned hit) birth h born = subst (λ (x : ℕ). IsBornAt parents group before x) (sym (some_same b birth h)) born
tenant_allowed parents group before (Scan worker walk asked policy visits freed stopped) birth h born = absurd (cc)
tenant_allowed parents group before (MovedIn child objects) birth h born = absurd (cc)
tenant_allowed parents group before Closed birth h born = absurd (cc)
tenant_allowed parents group before (Drained by objects) birth h born = absurd (cc)

-- what holds of each element holds of one
pub each_of : {A : Type 0} (P : A → Type 0) (xs : List A) (x : A) → Each P xs → Contains xs x → P x
each_of P [] x all (n, within, at) = absurd (omega (arith, within))
each_of P (y ∷ ys) x all (zero, within, at) = subst P at (all 0 y refl)
each_of P (y ∷ ys) x all (suc n, within, at) = each_of P ys x (λ j z e. all (suc j) z e) (n, omega (arith, within), at)

-- a room in hand of an open list that took a plain entry
module _ (shape : Shape) (u : View) (room : Room) (place : IsPlaceOfShape shape room.place) (nodes : shape.nodes ≤ 4) (groups : groups_in shape ≤ 256) (none : u.holding ≡ no_rooms)
    (told : IsTaken shape u (place_number room.place) (list_content room.list)) where
  -- the number of the room's place
  abbrev pub here : ℕ
  here = place_number room.place

  -- the view with this room in hand
  abbrev pub view : View
  view = with_taken u here (list_content room.list)

  module _ (new : Listed) (e : Entry) (n : ℕ) (took : Takes room.list new e n) (plain : IsPlain shape view here e) where
    module _ (allowed : IsAllowed shape.parents.items room.place.group room.list.entries e) where
      -- a list with one legal entry more is ready to be stored
      pub ready : IsRoomReady shape view (record room { list = new })
      ready = let g = took.gains in let last : last_entry new.entries ≡ e = ap last_entry g.entries ∙ last_pushed room.list.entries e in
          let hand : in_hand view here ≡ list_content room.list = taken_in_hand u here (list_content room.list) in
          let old-entries : (in_hand view here).entries ≡ room.list.entries = ap (λ (c : RoomContent). c.entries) hand in
          let old-items : (in_hand view here).items ≡ room.list.items = ap (λ (c : RoomContent). c.items) hand in
          let group : group_of here ≡ room.place.group = omega (arith, place.group, groups) in
          let free : IsUnspliced shape view here = λ child half. absurd (not_some child view.holding.half (ap (λ (h : Holding). h.half) none) half) in
          let moved : moved_in_hand view here (last_entry new.entries) ≡ [] = ap (moved_in_hand view here) last ∙ plain.moved in record {
            place = place;
            may = record {
              inside = inside shape room.place place nodes groups;
              room = has_taken u here (list_content room.list);
              entries = g.entries ∙ sym (λ i. old-entries i ++ last i ∷ []);
              stands = record {
                «open» = ap is_closed old-entries ∙ took.was_open;
                allowed = subst (λ (x : Entry). IsAllowed shape.parents.items (group_of here) (in_hand view here).entries x) (sym last)
                    (subst (λ (es : List Entry). IsAllowed shape.parents.items (group_of here) es e) (sym old-entries)
                    (subst (λ (x : ℕ). IsAllowed shape.parents.items x room.list.entries e) (sym group) allowed));
              };
              outcome = subst (λ (m : List Object). IsOutcome m (in_hand view here).items (last_entry new.entries)) (sym moved)
                  (subst (λ (is : List Object). IsOutcome [] is (last_entry new.entries)) (sym old-items)
                  (subst (λ (x : Entry). IsOutcome [] room.list.items x) (sym last) g.outcome));
              items = g.items ∙ sym (λ i. step (moved i) (old-items i) (last i));
              backed = subst (λ (x : Entry). IsBacked shape view here x) (sym last) (plain.backed free);
              few_items = let fit = took.room.items in omega (arith, fit, ap (length {A = Object}) g.items, told.most_items);
              few_entries = let fit = took.room.entries in omega (arith, fit, ap (length {A = Entry}) g.entries, length-append room.list.entries (e ∷ []), told.most_entries);
            };
            most_items = g.most_items ∙ ap (λ (c : RoomContent). c.most_items) (sym hand);
            most_entries = g.most_entries ∙ ap (λ (c : RoomContent). c.most_entries) (sym hand);
            whole = ap (half_after view.holding.half here) last ∙ (plain.half view.holding.half ∙ ap (λ (h : Holding). h.half) none);
          }

-- a room that was taken and is as it was
pub untouched : (shape : Shape) (u : View) (room : Room) (same : Listed) → IsPlaceOfShape shape room.place → u.holding ≡ no_rooms → same ≡ room.list
    → IsUntouched shape (with_taken u (place_number room.place) (list_content room.list)) (record room { list = same })
untouched shape u room same place none e = record {
  place = place;
  has = has_taken u (place_number room.place) (list_content room.list);
  same = subst (λ (l : Listed). IsInHand l (in_hand (with_taken u (place_number room.place) (list_content room.list)) (place_number room.place))) (sym e) (in_hand_whole u (place_number room.place) room.list);
  whole = ap (λ (h : Holding). h.half) none;
}

-- the list of an opened room, as the seat's first view sees it
module _ (shape : Shape) (v w : View) (id node birth : ℕ) (room : Room) (o : IsOpened shape v w id node birth room) where
  -- the list was met open, after all that the seat knew before it climbed
  pub was_open : WasOpen shape v (place_number room.place) room.list
  was_open = let t = o.told in let g = o.gains in record {
    «open» = o.«open»;
    most_items = t.most_items;
    most_entries = t.most_entries;
    later = record {
      known = each_before (λ (x : Known). x.place ≡ place_number room.place → length x.entries ≤ length room.list.entries) v.traces.known o.before.traces.known g.adds.known
          (λ j x at same. let b = t.known j x at same in omega (arith, ap (length {A = Entry}) b.1, length-append x.entries b.0));
      seen = subst (λ (l : List Counted). Each (λ x. x.place ≡ place_number room.place → x.version ≤ length room.list.entries) l) (same_seen v o.before [] [] g) t.seen;
      made = subst (λ (l : List Made). Each (λ x. x.place ≡ place_number room.place → x.number < length room.list.entries) l) (g.adds.made ∙ append-nil v.traces.made) t.made;
      items = t.items;
      entries = t.entries;
    };
    journal = t.journal;
  }

  -- it is that of the first open list still when more is known
  pub first_still : (w' : View) (m : List Made) (s : List ℕ) → Gains o.before w' m s → IsFirstOpen shape w' id node birth room.place
  first_still w' m s g = let f = o.first in record {
    same_id = f.same_id;
    same_node = f.same_node;
    above = f.above;
    below = λ group above lower. let k = f.below group above lower in (k.0, knows_still o.before w' m s (place_number (at_group room.place group)) k.0 g k.1, k.2);
  }

  -- the place is of the shape
  pub place_inside : IsTree shape.parents.items → id < shape.ids → node < shape.nodes → birth < groups_in shape → IsPlaceOfShape shape room.place
  place_inside tree near low far = let f = o.first in let e = f.same_id in let n = f.same_node in let le = IsAtOrAbove-le shape.parents.items tree room.place.group birth far f.above in record {
    id = omega (arith, near, e);
    node = omega (arith, low, n);
    group = omega (arith, le, far);
  }

  module _ (new : Listed) (f : Listed → Entry) (n : ℕ) (took : Takes room.list new (f room.list) n) (w' : View) (kept : w' ≡ with_kept w (place_number room.place) (last_entry new.entries) new.items) (half : (h : Option ℕ) → half_after h (place_number room.place) (f room.list) ≡ h) where
    abbrev e : Entry
    e = f room.list

    was : w' ≡ with_kept (with_taken o.before (place_number room.place) (list_content room.list)) (place_number room.place) e (step [] room.list.items e)
    was = kept ∙ λ i. with_kept (o.taken i) (place_number room.place) ((ap last_entry took.gains.entries ∙ last_pushed room.list.entries e) i) (took.gains.items i)

    last_gains : Gains o.before w' (entry_made (place_number room.place) room.list e ∷ []) (bits_for (place_number room.place) room.list.items (step [] room.list.items e))
    last_gains = subst (λ (x : View). Gains o.before x (entry_made (place_number room.place) room.list e ∷ []) (bits_for (place_number room.place) room.list.items (step [] room.list.items e))) (sym was)
        (gains_kept o.before (place_number room.place) (list_content room.list) e (step [] room.list.items e) (half o.before.holding.half))

    -- an entry that is kept is what the call gains
    pub gains_one : Gains v w' (entry_made (place_number room.place) room.list e ∷ []) (bits_for (place_number room.place) room.list.items (step [] room.list.items e))
    gains_one = gains_then v o.before w' [] (entry_made (place_number room.place) room.list e ∷ []) [] (bits_for (place_number room.place) room.list.items (step [] room.list.items e)) o.gains last_gains

    -- the seat acted on the first open list
    pub acts : (so : List Object → Type 0) → so room.list.items → Acts shape v w' id node birth (record { place = room.place; entry = n }) so f
    acts so before = record {
      old = room.list;
      before = before;
      first = first_still w' (entry_made (place_number room.place) room.list e ∷ []) (bits_for (place_number room.place) room.list.items (step [] room.list.items e)) last_gains;
      was = was_open;
      room = took.room;
      number = took.number;
      outcome = took.gains.outcome;
      gains = gains_one;
      known = subst (λ (x : View). Knows x (place_number room.place) (room.list.entries ++ e ∷ [])) (sym was) (known_kept o.before (place_number room.place) (list_content room.list) e (step [] room.list.items e));
    }

  -- the room is given back as it was
  module _ (same : Listed) (as-was : same ≡ room.list) (w' : View) (back : w' ≡ with_given w (place_number room.place)) where
    was_given : w' ≡ with_given (with_taken o.before (place_number room.place) (list_content room.list)) (place_number room.place)
    was_given = back ∙ λ i. with_given (o.taken i) (place_number room.place)

    given_gains : Gains o.before w' [] []
    given_gains = subst (λ (x : View). Gains o.before x [] []) (sym was_given) (gains_given o.before (place_number room.place) (list_content room.list))

    -- a room that is given back as it was gains nothing
    pub left_gains : Gains v w' [] []
    left_gains = gains_then v o.before w' [] [] [] [] o.gains given_gains

    -- and its list is still known as the first open one
    pub left_first : IsFirstOpen shape w' id node birth room.place
    left_first = first_still w' [] [] given_gains

    -- and its journal is known
    pub left_known : Knows w' (place_number room.place) room.list.entries
    left_known = subst (λ (x : View). Knows x (place_number room.place) room.list.entries) (sym was_given) (known_given o.before (place_number room.place) (list_content room.list))

    -- so a list without room was full
    pub left_full : (e : Entry) (entries items : ℕ) → IsWorn room.list [] e entries items → LackedRoom shape v w' (place_number room.place) room.list e entries items
    left_full e entries items worn = record {
      was = was_open;
      worn = worn;
      gains = left_gains;
      known = left_known;
    }

    -- and one that had room had it
    pub left_free : (e : Entry) → HasRoom room.list [] e → HadRoom shape v w' (place_number room.place) room.list e
    left_free e free = record { was = was_open; room = free; gains = left_gains; known = left_known }

  -- what the seat needs to store a tenant's entry, or to give the room back
  module _ (tree : IsTree shape.parents.items) (far : birth < groups_in shape) (place : IsPlaceOfShape shape room.place) (nodes : shape.nodes ≤ 4) (groups : groups_in shape ≤ 256) (none : v.holding ≡ no_rooms) where
    -- a list that is as it was may be given back
    pub untouched_here : (same : Listed) → same ≡ room.list → IsUntouched shape w (record { place = room.place; list = same })
    untouched_here same e = subst (λ (x : View). IsUntouched shape x (record { place = room.place; list = same })) (sym o.taken) (untouched shape o.before room same place (o.gains.holding ∙ none) e)

    born : IsBornAt shape.parents.items room.place.group room.list.entries birth
    born = record {
      there = far;
      at_or_above = o.first.above;
      moved = λ child is on. let higher = child_higher shape.parents.items room.place.group child tree (child_takes shape.parents.items room.place.group child is) in
          let k = o.first.below child on higher in
          each_of (λ (x : Known). (c : ℕ) → is_child shape.parents.items (group_of (place_number room.place)) c ≡ true → x.place ≡ beside (place_number room.place) c → is_closed x.entries ≡ true → Contains (moved_in room.list.entries) c) o.before.traces.known
          (record { place = place_number (at_group room.place child); entries = k.0 }) o.told.moved k.1 child
          (subst (λ (x : ℕ). is_child shape.parents.items x child ≡ true) (sym group) is) (omega (arith, place.group, groups)) k.2;
    } where
      group : group_of (place_number room.place) ≡ room.place.group
      group = omega (arith, place.group, groups)

    -- a list that took an entry which is no MovedIn and no Closed is ready
    pub ready_plain : (new : Listed) (e : Entry) (n : ℕ) → Takes room.list new e n → IsPlain shape (with_taken o.before (place_number room.place) (list_content room.list)) (place_number room.place) e
        → IsAllowed shape.parents.items room.place.group room.list.entries e → IsRoomReady shape w (record { place = room.place; list = new })
    ready_plain new e n took plain allowed = subst (λ (x : View). IsRoomReady shape x (record { place = room.place; list = new })) (sym o.taken)
        (ready shape o.before room place nodes groups (o.gains.holding ∙ none) o.told new e n took plain allowed)

    id_here : place_id (place_number room.place) ≡ id
    id_here = let same = o.first.same_id in omega (arith, place.node, place.group, nodes, groups, same)

    pub held_here : v.claims.held ≡ Some id → (with_taken o.before (place_number room.place) (list_content room.list)).claims.held ≡ Some (place_id (place_number room.place))
    held_here holds = ap (λ (c : Claims). c.held) o.gains.claims ∙ (holds ∙ ap (λ (x : ℕ). Some x) (sym id_here))

    pub owned_here : v.claims.owner ≡ Some id → (with_taken o.before (place_number room.place) (list_content room.list)).claims.owner ≡ Some (place_id (place_number room.place))
    owned_here owns = ap (λ (c : Claims). c.owner) o.gains.claims ∙ (owns ∙ ap (λ (x : ℕ). Some x) (sym id_here))

    -- a list that took a tenant's entry is ready
    pub ready_tenant : (new : Listed) (e : Entry) (n : ℕ) → Takes room.list new e n → v.claims.held ≡ Some id → birth_of e ≡ Some birth → IsRoomReady shape w (record { place = room.place; list = new })
    ready_tenant new e n took holds by = ready_plain new e n took (tenant_plain shape (with_taken o.before (place_number room.place) (list_content room.list)) (place_number room.place) e birth by far (held_here holds))
        (tenant_allowed shape.parents.items room.place.group room.list.entries e birth by born)

-- what a tenant's call is given: the seat has no room in hand and holds the id, and there are such
-- a node and group
pub record IsAsked (shape : Shape) (v : View) (id node birth : ℕ) : Type 0 where
  pub tree : IsTree shape.parents.items
  pub nodes : shape.nodes ≤ 4
  pub groups : groups_in shape ≤ 256
  pub none : v.holding ≡ no_rooms
  pub holds : v.claims.held ≡ Some id
  pub near : id < shape.ids
  pub low : node < shape.nodes
  pub far : birth < groups_in shape

-- what a tenant's call asks of its seat and place
pub asked_of : (core : Core) (v : View) (id node birth : ℕ) → v.holding ≡ no_rooms → v.claims.held ≡ Some id → (id < (shape_of core).ids) × (node < (shape_of core).nodes) × (birth < groups_in (shape_of core)) → IsAsked (shape_of core) v id node birth
asked_of core v id node birth none holds place = record {
  tree = core.tree;
  nodes = core.limits.2;
  groups = core.limits.4;
  none = none;
  holds = holds;
  near = place.0;
  low = place.1;
  far = place.2;
}

-- what a tenant's call needs to give its room back, and what it answers then
module _ (shape : Shape) (v w : View) (id node birth : ℕ) (room : Room) (o : IsOpened shape v w id node birth room) (a : IsAsked shape v id node birth) (new : Listed) where
  there : IsPlaceOfShape shape room.place
  there = place_inside shape v w id node birth room o a.tree a.near a.low a.far

  pub tenant_ready : (e : Entry) (n : ℕ) → birth_of e ≡ Some birth → Takes room.list new e n → IsRoomReady shape w (record { place = room.place; list = new })
  tenant_ready e n by took = ready_tenant shape v w id node birth room o a.tree a.far there a.nodes a.groups a.none new e n took a.holds by

  pub tenant_untouched : new ≡ room.list → IsUntouched shape w (record { place = room.place; list = new })
  tenant_untouched same = untouched_here shape v w id node birth room o a.tree a.far there a.nodes a.groups a.none new same

  module _ (w' : View) where
    -- the call acted on the first open list
    pub tenant_acts : (f : Listed → Entry) (n : ℕ) (so : List Object → Type 0) → birth_of (f room.list) ≡ Some birth → so room.list.items → Takes room.list new (f room.list) n
        → w' ≡ with_kept w (place_number room.place) (last_entry new.entries) new.items → Acts shape v w' id node birth (record { place = room.place; entry = n }) so f
    tenant_acts f n so by before took kept = acts shape v w id node birth room o new f n took w' kept
        (tenant_plain shape (with_taken o.before (place_number room.place) (list_content room.list)) (place_number room.place) (f room.list) birth by a.far (held_here shape v w id node birth room o a.tree a.far there a.nodes a.groups a.none a.holds)).half so before

    -- the call found the first open list full
    pub tenant_worn : (f : Listed → Entry) (entries items : ℕ) → RefusesWorn room.list new (f room.list) entries items → w' ≡ with_given w (place_number room.place) → TenantIsWorn shape v w' id node birth room.place f entries items
    tenant_worn f entries items worn left = record {
      old = room.list;
      first = left_first shape v w id node birth room o new worn.same w' left;
      full = left_full shape v w id node birth room o new worn.same w' left (f room.list) entries items worn.worn;
    }

    -- the call found no memory
    pub tenant_lacks : (f : Listed → Entry) → LacksMemory room.list new (f room.list) → w' ≡ with_given w (place_number room.place) → TenantLacks shape v w' id node birth f
    tenant_lacks f lacks left = record {
      place = room.place;
      old = room.list;
      first = left_first shape v w id node birth room o new lacks.same w' left;
      free = left_free shape v w id node birth room o new lacks.same w' left (f room.list) lacks.room;
    }

-- a list that took an entry has more than before, and one that stayed as it was has not
pub grown : (old new : Listed) (e : Entry) (n before : ℕ) → before ≡ length old.entries → Takes old new e n → before < length new.entries
grown old new e n before was took = omega (arith, was, ap (λ (es : List Entry). length es) took.gains.entries, length-append old.entries (e ∷ []))

pub not_left : {A : Type 0} (old new : Listed) (e : Entry) (n before : ℕ) → before ≡ length old.entries → Takes old new e n → length new.entries ≤ before → A
not_left old new e n before was took left = let more = grown old new e n before was took in absurd (omega (arith, more, left))

pub stayed : (old new : Listed) (before : ℕ) → before ≡ length old.entries → new ≡ old → length new.entries ≤ before
stayed old new before was same = omega (arith, was, ap (λ (l : Listed). length l.entries) same)

pub not_grown : {A : Type 0} (old new : Listed) (before : ℕ) → before ≡ length old.entries → new ≡ old → before < length new.entries → A
not_grown old new before was same more = let still = stayed old new before was same in absurd (omega (arith, more, still))

-- What a list told of a tenant's call, which makes this entry of it and tells this of its objects: the entry was made,
-- or the list had no room for it, or there was no memory, and then it stayed as it was.
abbrev pub Hears : {A : Type 0} → (List Object → A) → (Listed → Entry) → Place → Listed → NodeAnswer A → Listed → Type 0
Hears tells e place old (answers.Told at told) new = (at.place ≡ place) × (tells old.items ≡ told) × Takes old new (e old) at.entry
Hears tells e place old (answers.Worn (spent.List at entries items)) new = (at ≡ place) × RefusesWorn old new (e old) entries items
Hears tells e place old (answers.Worn s) new = ⊥
Hears tells e place old answers.Memory new = LacksMemory old new (e old)

-- a tenant's call took the room of the first open list, and heard this of it
pub record IsCall {A : Type 0} (core then : Core) (v w : View) (id node birth before : ℕ) (tells : List Object → A) (e : Listed → Entry) (room : Room) (answer : NodeAnswer A) (new : Listed) : Type 0 where
  pub table : then ≡ core
  pub opened : IsOpened (shape_of core) v w id node birth room
  pub asked : IsAsked (shape_of core) v id node birth
  pub mine : birth_of (e room.list) ≡ Some birth
  pub was : before ≡ length room.list.entries
  pub heard : Hears tells e room.place room.list answer new

module _ {A : Type 0} {core then : Core} {v w : View} {id node birth before : ℕ} {tells : List Object → A} {e : Listed → Entry} {room : Room} {answer : NodeAnswer A} {new : Listed} (c : IsCall core then v w id node birth before tells e room answer new) where
  -- a list that has one entry more is ready to be stored
  pub call_ready : before < length new.entries → IsRoomReady (shape_of then) w (record { place = room.place; list = new })
  call_ready more = subst (λ (x : Core). IsRoomReady (shape_of x) w (record { place = room.place; list = new })) (sym c.table) (by answer c.heard) where
    by : (a : NodeAnswer A) → Hears tells e room.place room.list a new → IsRoomReady (shape_of core) w (record { place = room.place; list = new })
    by (answers.Told at told) h = tenant_ready _ _ _ _ _ _ room c.opened c.asked new (e room.list) at.entry c.mine h.2
    by (answers.Worn (spent.List at entries items)) h = not_grown _ _ _ c.was h.1.same more
    by (answers.Worn s) h = absurd h
    by answers.Memory h = not_grown _ _ _ c.was h.same more

  -- one that has not is as it was
  pub call_untouched : length new.entries ≤ before → IsUntouched (shape_of then) w (record { place = room.place; list = new })
  call_untouched left = subst (λ (x : Core). IsUntouched (shape_of x) w (record { place = room.place; list = new })) (sym c.table) (by answer c.heard) where
    by : (a : NodeAnswer A) → Hears tells e room.place room.list a new → IsUntouched (shape_of core) w (record { place = room.place; list = new })
    by (answers.Told at told) h = not_left _ _ _ _ _ c.was h.2 left
    by (answers.Worn (spent.List at entries items)) h = tenant_untouched _ _ _ _ _ _ room c.opened c.asked new h.1.same
    by (answers.Worn s) h = absurd h
    by answers.Memory h = tenant_untouched _ _ _ _ _ _ room c.opened c.asked new h.same

  -- and once the room was given back the call gives what it is to give
  pub call_gives : (w' : View) → (before < length new.entries → w' ≡ with_kept w (place_number room.place) (last_entry new.entries) new.items) → (length new.entries ≤ before → w' ≡ with_given w (place_number room.place))
      → TenantGives (shape_of core) v id node birth tells e answer w'
  call_gives w' kept left = by answer c.heard where
    by : (a : NodeAnswer A) → Hears tells e room.place room.list a new → TenantGives (shape_of core) v id node birth tells e a w'
    by (answers.Told at told) h = subst (λ (p : Place). Acts (shape_of core) v w' id node birth (record { place = p; entry = at.entry }) (λ items. tells items ≡ told) e) (sym h.0)
        (tenant_acts _ _ _ _ _ _ room c.opened c.asked new w' e at.entry (λ items. tells items ≡ told) c.mine h.1 h.2 (kept (grown _ _ _ _ _ c.was h.2)))
    by (answers.Worn (spent.List at entries items)) h = subst (λ (p : Place). TenantIsWorn (shape_of core) v w' id node birth p e entries items) (sym h.0)
        (tenant_worn _ _ _ _ _ _ room c.opened c.asked new w' e entries items h.1 (left (stayed _ _ _ c.was h.1.same)))
    by (answers.Worn s) h = absurd h
    by answers.Memory h = tenant_lacks _ _ _ _ _ _ room c.opened c.asked new w' e h (left (stayed _ _ _ c.was h.same))

-- an unpinned object is dropped
pub dropped : (birth : ℕ) (key : List ℕ) (items : List Object) (object : Object) → named_in birth key items ≡ Some object → object.pinned ≡ false → drop_kind_of (named_in birth key items) ≡ Dropped
dropped birth key items object is free = ap drop_kind_of is ∙ ap (λ b. cond b Pinned Dropped) free

-- a key that isn't held has no value
pub no_value : (birth : ℕ) (key : List ℕ) (items : List Object) → holds birth key items ≡ false → option_map (λ (o : Object). o.value) (named_in birth key items) ≡ None
no_value birth key items absent = by (named_in birth key items) (is_some_find (is_named birth key) items ∙ absent) where
  by : (o : Option Object) → is_some o ≡ false → option_map (λ (y : Object). y.value) o ≡ None
  by None is = refl
  by (Some y) is = absurd (cc)

-- an entry of a scan is plain
pub scan_plain : (shape : Shape) (v : View) (k : ℕ) (e : Entry) (l : Listed) (worker walk : ℕ) (policy : Policy) (asked : ℕ) → e ≡ scan_entry l worker walk policy asked → v.claims.held ≡ Some (place_id k) → IsPlain shape v k e
scan_plain shape v k e l worker walk policy asked is holds = subst (λ (x : Entry). IsPlain shape v k x) (sym is) (record { moved = refl; half = λ h. refl; backed = λ free. (holds, free) })

-- a scan fills no list
scan_bits : (k : ℕ) (l : Listed) (worker walk : ℕ) (policy : Policy) (asked : ℕ) → bits_for k l.items (step [] l.items (scan_entry l worker walk policy asked)) ≡ []
scan_bits k l worker walk policy asked = by l.items where
  e : List Object → Entry
  e items = let s = scan_of policy asked items in Scan worker walk asked policy s.visits (length s.freed) s.stopped

  by : (items : List Object) → bits_for k items (scan_of policy asked items).items ≡ []
  by [] = ap (bits_for k []) (step_none [] (Scan worker walk asked policy 0 0 false) (λ a b c d f is. absurd (cc)) refl)
  by (x ∷ xs) = let new = (scan_of policy asked (x ∷ xs)).items in ap (λ b. cond (b && nat_lt 0 (length new) && nat_lt 0 (group_of k)) (k ∷ []) []) (ne_eqb (length (x ∷ xs)) 0 (λ z. absurd (omega (arith, z))))

-- a place is that of the first open list from its own group up
pub own_place : (shape : Shape) (v : View) (place : Place) → IsTree shape.parents.items → place.group < groups_in shape → IsFirstOpen shape v place.id place.node place.group place
own_place shape v place tree there = record {
  same_id = refl;
  same_node = refl;
  above = IsAtOrAbove-refl shape.parents.items tree place.group there;
  below = λ group above lower. absurd (omega (arith, lower, IsAtOrAbove-le shape.parents.items tree group place.group there above));
}

-- what a scan leaves to say
pub scans : (shape : Shape) (v w : View) (place : Place) (n worker walk : ℕ) (policy : Policy) (asked : ℕ) (freed : List Object) (visits : ℕ) (stopped : Bool)
    → Acts shape v w place.id place.node place.group (record { place = place; entry = n }) (λ items. TellsScan policy asked items freed visits stopped × AreBorn (groups_in shape) freed) (λ old. scan_entry old worker walk policy asked)
    → ScansPlace shape v w place worker walk policy asked freed visits stopped
scans shape v w place n worker walk policy asked freed visits stopped a = let e : Entry = scan_entry a.old worker walk policy asked in record {
  old = a.old;
  told = a.before.0;
  born = a.before.1;
  was = a.was;
  room = a.room;
  outcome = a.outcome;
  gains = subst (λ (s : List ℕ). Gains v w (entry_made (place_number place) a.old e ∷ []) s) (scan_bits (place_number place) a.old worker walk policy asked) a.gains;
  known = a.known;
}

-- the room of a place was taken, whose list is open
pub own_opened : (shape : Shape) (v w : View) (place : Place) (room : Room) → IsTree shape.parents.items → place.group < groups_in shape → room.place ≡ place
    → w ≡ with_taken v (place_number place) (list_content room.list) → IsTaken shape v (place_number place) (list_content room.list) → is_closed room.list.entries ≡ false → IsOpened shape v w place.id place.node place.group room
own_opened shape v w place room tree there same taken told opens = opened_here shape v v w place.id place.node place.group place room same (gains_none v) (own_place shape v place tree there) taken told opens

-- a drain is plain for the owner of the id that is quiet
pub drain_plain : (shape : Shape) (v : View) (k : ℕ) (l : Listed) (by : Serial) → v.claims.owner ≡ Some (place_id k) → v.claims.quiet ≡ true → IsPlain shape v k (drain_entry l by)
drain_plain shape v k l by owns quiet = record { moved = refl; half = λ h. refl; backed = λ free. (owns, quiet, free) }

-- a drain fills no list
pub drain_bits : (k : ℕ) (old : List Object) → bits_for k old [] ≡ []
drain_bits k old = by (length old == 0) where
  by : (b : Bool) → cond (b && nat_lt 0 (length {A = Object} []) && nat_lt 0 (group_of k)) (k ∷ []) [] ≡ []
  by true = refl
  by false = refl

-- the view once a place's room was taken, one entry stored, and the room given back
pub was_kept : (v w x : View) (place : Place) (room : Room) (new : Listed) (e : Entry) → room.place ≡ place → w ≡ with_taken v (place_number place) (list_content room.list) → x ≡ with_kept w (place_number room.place) (last_entry new.entries) new.items
    → new.entries ≡ room.list.entries ++ e ∷ [] → x ≡ with_kept (with_taken v (place_number place) (list_content room.list)) (place_number place) e new.items
was_kept v w x place room new e same taken kept entries = kept ∙ λ i. with_kept (taken i) (place_number (same i)) ((ap last_entry entries ∙ last_pushed room.list.entries e) i) new.items

-- and once it was given back as it was
pub was_left : (v w x : View) (place : Place) (room : Room) → room.place ≡ place → w ≡ with_taken v (place_number place) (list_content room.list) → x ≡ with_given w (place_number room.place) → x ≡ with_given (with_taken v (place_number place) (list_content room.list)) (place_number place)
was_left v w x place room same taken left = left ∙ λ i. with_given (taken i) (place_number (same i))
