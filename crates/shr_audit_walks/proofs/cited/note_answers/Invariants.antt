-- SPDX-License-Identifier: GPL-2.0-only
use Rattle.shr_audit_walks.specs.Cited.{AreHighestCited}
use Rattle.shr_audit_walks.proofs.cited.note_answers.Given as goal

abbrev pub invariant-loop-k : goal.invariant-loop-k
invariant-loop-k l = AreHighestCited l.answers l.k l.cited
