-- SPDX-License-Identifier: GPL-2.0-only
use Rattle.shr_node.proofs.Common.{◌≡◌, ◌<◌, cond, sym, ap, subst, ◌∙◌, place_number, View, has_room, view_of, shape_of, with_stored, with_set, in_hand, last_entry, IsInHand}
use Rattle.shr_node.proofs.Keeping.{kept_has, kept_same}
use Rattle.shr_node.proofs.rooms.keep.Goals as goal

-- the view before the room is given back
raised_view : (c : goal.After-give_room-arg-1) → view_of c.raise.new.seat ≡ cond c.if-len-gt0.raised (with_set (with_stored (view_of c.args.seat.now) (place_number c.args.room.place) (last_entry c.args.room.list.entries) c.args.room.list.items) (place_number c.args.room.place)) (with_stored (view_of c.args.seat.now) (place_number c.args.room.place) (last_entry c.args.room.list.entries) c.args.room.list.items)
raised_view c = ap view_of c.raise.ensures.set ∙ ap (λ (w : View). cond c.if-len-gt0.raised (with_set w (place_number c.args.room.place)) w) (ap view_of c.store_count.ensures.stored)

pub give_room-requires-clause-has : goal.give_room-requires-clause-has
give_room-requires-clause-has c = subst (λ (w : View). 0 < has_room (place_number c.args.room.place) w.holding) (sym (raised_view c))
    (kept_has (view_of c.args.seat.now) (place_number c.args.room.place) (last_entry c.args.room.list.entries) c.args.room.list.items c.if-len-gt0.raised c.requires.ready.may.room)

pub give_room-requires-clause-same : goal.give_room-requires-clause-same
give_room-requires-clause-same c = subst (λ (w : View). IsInHand c.args.room.list (in_hand w (place_number c.args.room.place))) (sym (raised_view c))
    (kept_same (shape_of c.args.seat.now.core) (view_of c.args.seat.now) c.args.room c.if-len-gt0.raised c.requires.ready)
