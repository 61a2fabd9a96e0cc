-- SPDX-License-Identifier: GPL-2.0-only
use Rattle.shr_core.specs.Seats.{view_of, shape_of}
use Rattle.std.specs.Prelude.{◌≡◌}
use Rattle.shr_registry.proofs.Empties.{SoFar}
use Rattle.shr_registry.proofs.draining.empty.Given as goal

abbrev pub invariant-loop-node : goal.invariant-loop-node
invariant-loop-node g l = record { table : l.seat.core ≡ l.fn.seat.core; sofar : SoFar (shape_of l.fn.seat.core) (view_of l.fn.seat) (view_of l.seat) l.id l.node l.by l.fn.objects.items l.objects.items }
