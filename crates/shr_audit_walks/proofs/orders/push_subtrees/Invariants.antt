-- SPDX-License-Identifier: GPL-2.0-only
use Rattle.std.proofs.Common.{◌≡◌, ◌++◌}
use Rattle.shr_audit_walks.proofs.Ordering.{below}
use Rattle.shr_audit_walks.proofs.orders.push_subtrees.Given as goal

abbrev pub invariant-loop-child : goal.invariant-loop-child
invariant-loop-child l = l.order.items ≡ l.fn.order.items ++ below l.parents l.group l.child
