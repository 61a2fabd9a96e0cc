-- SPDX-License-Identifier: GPL-2.0-only
use Rattle.shr_audit_causes.proofs.AboveLaws.{Upto}
use Rattle.shr_audit_causes.proofs.above.above_of.Given as goal

abbrev pub invariant-loop-group : goal.invariant-loop-group
invariant-loop-group l = Upto l.script l.report l.group l.above.items
