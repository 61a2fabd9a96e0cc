-- SPDX-License-Identifier: GPL-2.0-only
use Rattle.shr_audit_sweep.proofs.Common.{◌≡◌, ◌<◌, ℕ, true, false, get_or, job_index}
use Rattle.shr_audit_sweep.proofs.marks.is_group_marked.Given as goal

abbrev pub invariant-loop-node : goal.invariant-loop-node
invariant-loop-node l = (n : ℕ) → n < l.node → get_or l.marks (job_index l.nodes l.group n) false ≡ true
