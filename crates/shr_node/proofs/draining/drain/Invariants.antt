-- SPDX-License-Identifier: GPL-2.0-only
use Rattle.shr_node.proofs.Common.{◌≡◌, ◌≤◌, groups_in, view_of, shape_of}
use Rattle.shr_node.proofs.Draws.{IsDraining}
use Rattle.shr_node.proofs.draining.drain.Given as goal

abbrev pub invariant-draining : goal.invariant-draining
invariant-draining g l = record { table : l.seat.core ≡ l.fn.seat.core; there : l.group ≤ groups_in (shape_of l.fn.seat.core); draws : IsDraining (shape_of l.fn.seat.core) (view_of l.fn.seat) (view_of l.seat) l.lists.id l.lists.node l.by l.fn.into.items l.into.items l.group }

abbrev pub decreases-draining : goal.decreases-draining
decreases-draining g l = l.group
