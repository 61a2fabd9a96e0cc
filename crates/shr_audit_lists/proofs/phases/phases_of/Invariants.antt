-- SPDX-License-Identifier: GPL-2.0-only
use Rattle.shr_audit_lists.proofs.BitsCommon.{take, ArePhases}
use Rattle.shr_audit_lists.proofs.phases.phases_of.Given as goal

abbrev pub invariant-loop-entry : goal.invariant-loop-entry
invariant-loop-entry l = ArePhases (take l.entry-index l.pool) l.phases.items
