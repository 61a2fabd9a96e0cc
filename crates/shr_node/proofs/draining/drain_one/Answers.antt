-- SPDX-License-Identifier: GPL-2.0-only
use Rattle.shr_node.proofs.Common.{Shape, ◌++◌, arith, ap, length, refl, sym, subst, ◌∙◌, Spent, Core, Room, Seated, view_of, shape_of, place_number, IsRoomReady, DrainWorn}
use Rattle.shr_node.proofs.Places.{IsOwnTaken, still_seat, still_taken, own_met, filled_some, drain_ready, drain_leaves, drain_made, empty_leaves, empty_passed}
use Rattle.shr_node.proofs.draining.drain_one.Goals as goal

pub keep-requires-clause-ready : goal.keep-requires-clause-ready
keep-requires-clause-ready g c = let room : Room = c.take_room-room.result in let e = c.take_room-room.ensures in let t : IsOwnTaken (shape_of c.args.seat.now.core) (view_of c.args.seat.now) (view_of c.take_room-room.new.self) c.args.place room = still_taken c.args.seat.now c.finds_empty.new.self c.take_room-room.new.self c.args.place room c.finds_empty.result c.finds_empty.ensures.emptied c.if-finds_empty.false c.requires.rooms c.requires.place e.place e.taken e.told in
    let some = sym c.is_empty.ensures.empty ∙ c.if-is_empty.false in let opens = c.is_empty.ensures.opened c.if-is_empty.false in
    subst (λ (x : Core). IsRoomReady (shape_of x) (view_of c.take_room-room.new.self) (record { place = room.place; list = c.drain.new.self })) (sym (ap (λ (s : Seated). s.core) e.taken ∙ ap (λ (s : Seated). s.core) (still_seat c.args.seat.now c.finds_empty.new.self (place_number c.args.place) c.finds_empty.result c.finds_empty.ensures.emptied c.if-finds_empty.false)))
    (drain_ready _ _ _ _ room t c.drain.new.self c.requires.owns c.requires.quiet c.args.by (length room.list.entries) (filled_some room.list.items some) c.in-Drained.ensures.1)

pub returns-in-Drained-clause-answer : goal.returns-in-Drained-clause-answer
returns-in-Drained-clause-answer g c = let room : Room = c.take_room-room.result in let e = c.take_room-room.ensures in let t : IsOwnTaken (shape_of c.args.seat.now.core) (view_of c.args.seat.now) (view_of c.take_room-room.new.self) c.args.place room = still_taken c.args.seat.now c.finds_empty.new.self c.take_room-room.new.self c.args.place room c.finds_empty.result c.finds_empty.ensures.emptied c.if-finds_empty.false c.requires.rooms c.requires.place e.place e.taken e.told in
    let some = sym c.is_empty.ensures.empty ∙ c.if-is_empty.false in let opens = c.is_empty.ensures.opened c.if-is_empty.false in
    drain_made _ _ _ _ room t c.drain.new.self c.args.by (length room.list.entries) some c.in-Drained.ensures.1 _ (ap view_of c.keep.ensures.kept) c.args.into.now.items c.append.new.self.items (c.append.ensures.items ∙ λ i. c.make_room-made.ensures.kept i ++ c.in-Drained.ensures.0 i)

pub returns-in-Worn-clause-answer : goal.returns-in-Worn-clause-answer
returns-in-Worn-clause-answer g c = let room : Room = c.take_room-room.result in let e = c.take_room-room.ensures in let t : IsOwnTaken (shape_of c.args.seat.now.core) (view_of c.args.seat.now) (view_of c.take_room-room.new.self) c.args.place room = still_taken c.args.seat.now c.finds_empty.new.self c.take_room-room.new.self c.args.place room c.finds_empty.result c.finds_empty.ensures.emptied c.if-finds_empty.false c.requires.rooms c.requires.place e.place e.taken e.told in
    let some = sym c.is_empty.ensures.empty ∙ c.if-is_empty.false in let opens = c.is_empty.ensures.opened c.if-is_empty.false in let worn = c.in-Worn.ensures in (
      drain_leaves _ _ _ _ room t c.drain.new.self opens some worn.same _ (ap view_of c.leave-in-Worn.ensures.left) c.args.into.now.items _ c.make_room-made.ensures.kept,
      subst (λ (s : Spent). DrainWorn (shape_of c.args.seat.now.core) (view_of c.args.seat.now) (view_of c.leave-in-Worn.new.seat) c.args.place.id c.args.place.node c.args.place.group c.args.by s) (sym c.list_spent.ensures) (record {
        old = room.list;
        here = refl;
        filled = record { there = c.requires.place.group; some = filled_some room.list.items some; met = own_met _ _ _ _ room t c.drain.new.self opens worn.same _ (ap view_of c.leave-in-Worn.ensures.left) };
        worn = worn.worn;
      }),
    )

pub returns-in-Memory-clause-answer : goal.returns-in-Memory-clause-answer
returns-in-Memory-clause-answer g c = let room : Room = c.take_room-room.result in let e = c.take_room-room.ensures in let t : IsOwnTaken (shape_of c.args.seat.now.core) (view_of c.args.seat.now) (view_of c.take_room-room.new.self) c.args.place room = still_taken c.args.seat.now c.finds_empty.new.self c.take_room-room.new.self c.args.place room c.finds_empty.result c.finds_empty.ensures.emptied c.if-finds_empty.false c.requires.rooms c.requires.place e.place e.taken e.told in
    let some = sym c.is_empty.ensures.empty ∙ c.if-is_empty.false in let opens = c.is_empty.ensures.opened c.if-is_empty.false in
    let left = drain_leaves _ _ _ _ room t c.drain.new.self opens some c.in-Memory.ensures.same _ (ap view_of c.leave-in-Memory.ensures.left) c.args.into.now.items _ c.make_room-made.ensures.kept in
    record { none = left.none; marks = left.marks; old = room.list; filled = record { there = c.requires.place.group; some = filled_some room.list.items some; met = own_met _ _ _ _ room t c.drain.new.self opens c.in-Memory.ensures.same _ (ap view_of c.leave-in-Memory.ensures.left) }; room = c.in-Memory.ensures.room }

pub returns-then-not-made-clause-answer : goal.returns-then-not-made-clause-answer
returns-then-not-made-clause-answer g c = let room : Room = c.take_room-room.result in let e = c.take_room-room.ensures in let t : IsOwnTaken (shape_of c.args.seat.now.core) (view_of c.args.seat.now) (view_of c.take_room-room.new.self) c.args.place room = still_taken c.args.seat.now c.finds_empty.new.self c.take_room-room.new.self c.args.place room c.finds_empty.result c.finds_empty.ensures.emptied c.if-finds_empty.false c.requires.rooms c.requires.place e.place e.taken e.told in
    let some = sym c.is_empty.ensures.empty ∙ c.if-is_empty.false in let opens = c.is_empty.ensures.opened c.if-is_empty.false in
    let most = t.told.most_entries in let same = ap (λ (s : Shape). s.most_entries) (c.shape.ensures ∙ ap shape_of (c.core.ensures ∙ (ap (λ (s : Seated). s.core) e.taken ∙ ap (λ (s : Seated). s.core) (still_seat c.args.seat.now c.finds_empty.new.self (place_number c.args.place) c.finds_empty.result c.finds_empty.ensures.emptied c.if-finds_empty.false)))) in let few = c.make_room-made.ensures.open c.if-not-made.true in
    let left = drain_leaves _ _ _ _ room t room.list opens some refl _ (ap view_of c.leave-then-not-made.ensures.left) c.args.into.now.items _ c.make_room-made.ensures.kept in
    record { none = left.none; marks = left.marks; old = room.list; filled = record { there = c.requires.place.group; some = filled_some room.list.items some; met = own_met _ _ _ _ room t room.list opens refl _ (ap view_of c.leave-then-not-made.ensures.left) }; room = record { entries = omega (arith, most, same, few); items = omega arith } }

pub returns-then-is_empty-clause-answer : goal.returns-then-is_empty-clause-answer
returns-then-is_empty-clause-answer g c = let room : Room = c.take_room-room.result in let e = c.take_room-room.ensures in let t : IsOwnTaken (shape_of c.args.seat.now.core) (view_of c.args.seat.now) (view_of c.take_room-room.new.self) c.args.place room = still_taken c.args.seat.now c.finds_empty.new.self c.take_room-room.new.self c.args.place room c.finds_empty.result c.finds_empty.ensures.emptied c.if-finds_empty.false c.requires.rooms c.requires.place e.place e.taken e.told in
    empty_leaves _ _ _ _ room t (sym c.is_empty.ensures.empty ∙ c.if-is_empty.true) _ (ap view_of c.leave.ensures.left) c.args.into.now.items

pub returns-then-finds_empty-clause-answer : goal.returns-then-finds_empty-clause-answer
returns-then-finds_empty-clause-answer g c = empty_passed _ c.args.seat.now c.finds_empty.new.self c.args.place c.finds_empty.result c.finds_empty.ensures.emptied c.if-finds_empty.true c.args.into.now.items
