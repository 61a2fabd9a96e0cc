-- SPDX-License-Identifier: GPL-2.0-only
use Rattle.shr_audit_lists.proofs.Common.{◌<◌, ℕ, IsClosedAt}
use Rattle.shr_audit_lists.proofs.done.is_closed_on_nodes.Given as goal

abbrev pub invariant-loop-node : goal.invariant-loop-node
invariant-loop-node l = (n : ℕ) → n < l.node → IsClosedAt l.report l.id n l.group
