-- SPDX-License-Identifier: GPL-2.0-only
use Rattle.shr_audit_sweep.proofs.Common.{◌<◌, ℕ, IsGroupMarked}
use Rattle.shr_audit_sweep.proofs.marks.are_marked.Given as goal

abbrev pub invariant-loop-group : goal.invariant-loop-group
invariant-loop-group l = (n : ℕ) → n < l.group → IsGroupMarked l.nodes n l.marks
