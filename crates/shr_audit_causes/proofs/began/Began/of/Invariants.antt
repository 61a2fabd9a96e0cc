-- SPDX-License-Identifier: GPL-2.0-only
use Rattle.shr_audit_causes.specs.Began.{IsUpto}
use Rattle.shr_audit_causes.proofs.began.Began.of.Given as goal

abbrev pub invariant-loop-n : goal.invariant-loop-n
invariant-loop-n l = IsUpto l.report.pool.items l.n l.began
