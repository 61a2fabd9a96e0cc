-- SPDX-License-Identifier: GPL-2.0-only
use Rattle.shr_node.proofs.Common.{[], sym, ap, subst, ◌∙◌, View, Room, view_of, place_number, list_content, Gains, Knows}
use Rattle.std.proofs.lemmas.Bool.{not-false}
use Rattle.shr_node.proofs.Acting.{was_left}
use Rattle.shr_node.proofs.Gaining.{gains_given, known_given}
use Rattle.shr_node.proofs.splicing.is_open.Goals as goal

pub returns-clause-gains : goal.returns-clause-gains
returns-clause-gains g c = let v : View = view_of c.args.seat.now in let room : Room = c.take_room-room.result in let e = c.take_room-room.ensures in
    subst (λ (w : View). Gains v w [] []) (sym (was_left v (view_of c.take_room-room.new.self) (view_of c.leave.new.seat) c.args.place room e.place (ap view_of e.taken) (ap view_of c.leave.ensures.left))) (gains_given v (place_number c.args.place) (list_content room.list))

pub returns-clause-closed : goal.returns-clause-closed
returns-clause-closed g c isnt = let v : View = view_of c.args.seat.now in let room : Room = c.take_room-room.result in let e = c.take_room-room.ensures in (
  room.list.entries,
  subst (λ (w : View). Knows w (place_number c.args.place) room.list.entries) (sym (was_left v (view_of c.take_room-room.new.self) (view_of c.leave.new.seat) c.args.place room e.place (ap view_of e.taken) (ap view_of c.leave.ensures.left))) (known_given v (place_number c.args.place) (list_content room.list)),
  sym c.closed-opens.ensures ∙ not-false c.closed-opens.result isnt,
)
