-- SPDX-License-Identifier: GPL-2.0-only
use Rattle.shr_audit_lists.proofs.Common.{◌<◌, ℕ, IsClosedAt}
use Rattle.shr_audit_lists.proofs.done.is_group_closed.Given as goal

abbrev pub invariant-loop-id : goal.invariant-loop-id
invariant-loop-id l = (i : ℕ) → i < l.id → (n : ℕ) → n < l.nodes → IsClosedAt l.report i n l.group
