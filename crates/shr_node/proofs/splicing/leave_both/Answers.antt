-- SPDX-License-Identifier: GPL-2.0-only
use Rattle.shr_node.proofs.Common.{ap, place_number, list_content, view_of}
use Rattle.shr_node.proofs.Closing.{child_left}
use Rattle.shr_node.proofs.splicing.leave_both.Goals as goal

pub give_room-requires-2-clause-same : goal.give_room-requires-2-clause-same
give_room-requires-2-clause-same c = child_left c.requires.untouched.0 (view_of c.args.seat.now) (view_of c.give_room.new.self) (place_number c.args.child.place) c.args.child.list (place_number c.args.above.place) (list_content c.args.above.list) c.requires.untouched.1.taken (ap view_of c.give_room.ensures.given)
