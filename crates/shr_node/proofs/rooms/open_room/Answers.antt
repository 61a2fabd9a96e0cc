-- SPDX-License-Identifier: GPL-2.0-only
use Rattle.shr_node.proofs.Common.{◌≡◌, ◌≢◌, ℕ, refl, sym, ap, subst, ◌∙◌, arith, parent_of, place_number, Place, Core, View, Room, Seated, IsPlaceOfShape, IsTaken, list_content, with_given, view_of, shape_of, Shape, RoomContent, group_of}
use Rattle.shr_node.proofs.Climbing.{IsOnWay, way_begins, way_goes, way_ends, below_root, place_of}
use Rattle.shr_node.proofs.Acting.{opened_here, bare_hands}
use Rattle.shr_node.proofs.rooms.open_room.Given.{Over}
use Rattle.shr_node.proofs.rooms.open_room.Goals as goal

pub climbing-init : goal.climbing-init
climbing-init g c = record { table = refl; way = way_begins _ _ _ _ _ c.args.seat.now.core.tree c.requires.place.2 }

pub take_room-room-requires-clause-place : goal.take_room-room-requires-clause-place
take_room-room-requires-clause-place g c = subst (λ (x : Core). IsPlaceOfShape (shape_of x) (place_of c.args.id c.args.node c.climbing.group)) (sym c.climbing.invariant.table) (record { id = c.requires.place.0; node = c.requires.place.1; group = c.climbing.invariant.way.there })

pub take_room-room-requires-clause-rooms : goal.take_room-room-requires-clause-rooms
take_room-room-requires-clause-rooms g c = bare_hands (shape_of c.climbing.seat.core) (view_of c.climbing.seat) (place_of c.args.id c.args.node c.climbing.group) (c.climbing.invariant.way.gains.holding ∙ c.requires.rooms)

pub returns-then-not-closed-clause-opened : goal.returns-then-not-closed-clause-opened
returns-then-not-closed-clause-opened g c = let way = c.climbing.invariant.way in let room : Room = c.take_room-room.result in
    opened_here (shape_of c.args.seat.now.core) (view_of c.args.seat.now) (view_of c.climbing.seat) (view_of c.take_room-room.new.self) c.args.id c.args.node c.args.birth (place_of c.args.id c.args.node c.climbing.group) room c.take_room-room.ensures.place way.gains
    (way_ends (shape_of c.args.seat.now.core) (view_of c.args.seat.now) (view_of c.climbing.seat) c.args.id c.args.node c.args.birth c.climbing.group c.args.seat.now.core.tree c.requires.place.2 way (list_content room.list)) (ap view_of c.take_room-room.ensures.taken) (subst (λ (x : Core). IsTaken (shape_of x) (view_of c.climbing.seat) (place_number (place_of c.args.id c.args.node c.climbing.group)) (list_content room.list)) c.climbing.invariant.table c.take_room-room.ensures.told) (sym c.closed.ensures ∙ c.if-not-closed.true)

-- the table of the seat whose room was given back
table : (g : Over) (c : goal.After-parent-group g) → c.core.result.now ≡ c.args.seat.now.core
table g c = c.core.ensures ∙ (ap (λ (s : Seated). s.core) c.give_room.ensures.given ∙ (ap (λ (s : Seated). s.core) c.take_room-room.ensures.taken ∙ c.climbing.invariant.table))

-- the list that is closed is not the root's
low : (g : Over) (c : goal.After-parent-group g) → c.climbing.group ≢ 0
low g c zero = below_root (shape_of c.climbing.seat.core).parents.items (group_of (place_number (place_of c.args.id c.args.node c.climbing.group))) c.take_room-room.result.list.entries c.take_room-room.ensures.told.stands
    (sym c.closed.ensures ∙ c.if-not-closed.false) (let groups = c.args.seat.now.core.limits.4 in let there = c.climbing.invariant.way.there in omega (arith, groups, there, zero))

pub climbing-smaller : goal.climbing-smaller
climbing-smaller g c = let there = c.climbing.invariant.way.there in let not-root = low g c in let up = c.args.seat.now.core.tree.lower c.climbing.group (omega (arith, not-root)) there in let e = c.parent-group.ensures ∙ ap (λ (x : Core). parent_of (shape_of x).parents.items c.climbing.group) (table g c) in omega (arith, up, e)

pub climbing-preserved : goal.climbing-preserved
climbing-preserved g c = let shape : Shape = shape_of c.args.seat.now.core in let v : View = view_of c.args.seat.now in let u : View = view_of c.climbing.seat in let p : Place = place_of c.args.id c.args.node c.climbing.group in let room : Room = c.take_room-room.result in let content : RoomContent = list_content room.list in record {
  table = ap (λ (s : Seated). s.core) c.give_room.ensures.given ∙ (ap (λ (s : Seated). s.core) c.take_room-room.ensures.taken ∙ c.climbing.invariant.table);
  way = subst (λ (x : ℕ). IsOnWay shape v (view_of c.give_room.new.self) c.args.id c.args.node c.args.birth x) (sym (c.parent-group.ensures ∙ ap (λ (x : Core). parent_of (shape_of x).parents.items c.climbing.group) (table g c)))
      (subst (λ (x : View). IsOnWay shape v x c.args.id c.args.node c.args.birth (parent_of shape.parents.items c.climbing.group))
      (sym (ap view_of c.give_room.ensures.given ∙ λ i. with_given (view_of (c.take_room-room.ensures.taken i)) (place_number (c.take_room-room.ensures.place i))))
      (way_goes shape v u c.args.id c.args.node c.args.birth c.climbing.group c.args.seat.now.core.tree c.requires.place.2 c.climbing.invariant.way content (sym c.closed.ensures ∙ c.if-not-closed.false) (low g c)));
}
