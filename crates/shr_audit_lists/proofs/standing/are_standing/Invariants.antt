-- SPDX-License-Identifier: GPL-2.0-only
use Rattle.shr_audit_lists.proofs.Allowing.{IsStood}
use Rattle.shr_audit_lists.proofs.standing.are_standing.Given as goal

abbrev pub invariant-loop-entry : goal.invariant-loop-entry
invariant-loop-entry l = IsStood l.parents l.group l.entries l.entry-index l.moved.items l.closed
