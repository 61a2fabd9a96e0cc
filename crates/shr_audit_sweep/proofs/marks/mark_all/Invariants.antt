-- SPDX-License-Identifier: GPL-2.0-only
use Rattle.shr_audit_sweep.proofs.Common.{length, parents_of, AreMarked}
use Rattle.shr_audit_sweep.proofs.Marking.{swept_to}
use Rattle.shr_audit_sweep.proofs.marks.mark_all.Given as goal

abbrev pub invariant-loop-worker : goal.invariant-loop-worker
invariant-loop-worker l = AreMarked (length (parents_of l.script)) l.script.nodes (swept_to l.script l.report l.worker) l.marks.items
