-- SPDX-License-Identifier: GPL-2.0-only
use Rattle.shr_audit_lists.proofs.Common.{◌<◌, ℕ, Contains, Done, IsClosedAt}
use Rattle.shr_audit_lists.proofs.done.are_done_closed.Given as goal

abbrev pub invariant-loop-group : goal.invariant-loop-group
invariant-loop-group l = (g : ℕ) → g < l.group → Contains l.report.tree.items (Done g) → (i : ℕ) → i < l.script.ids → (n : ℕ) → n < l.script.nodes → IsClosedAt l.report i n g
