-- SPDX-License-Identifier: GPL-2.0-only
use Rattle.shr_audit_walks.specs.Filled.{AreFilled}
use Rattle.shr_audit_walks.proofs.filled.note_fillings.Given as goal

abbrev pub invariant-loop-k : goal.invariant-loop-k
invariant-loop-k l = AreFilled l.case.parents.items l.report l.answers l.k l.filled
