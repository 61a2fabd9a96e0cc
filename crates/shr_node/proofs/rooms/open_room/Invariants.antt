-- SPDX-License-Identifier: GPL-2.0-only
use Rattle.std.specs.Prelude.{◌≡◌}
use Rattle.shr_core.specs.Seats.{view_of, shape_of}
use Rattle.shr_node.proofs.Climbing.{IsOnWay}
use Rattle.shr_node.proofs.rooms.open_room.Given as goal

abbrev pub invariant-climbing : goal.invariant-climbing
invariant-climbing g l = record { table : l.seat.core ≡ l.fn.seat.core; way : IsOnWay (shape_of l.fn.seat.core) (view_of l.fn.seat) (view_of l.seat) l.id l.node l.birth l.group }

abbrev pub decreases-climbing : goal.decreases-climbing
decreases-climbing g l = l.group
