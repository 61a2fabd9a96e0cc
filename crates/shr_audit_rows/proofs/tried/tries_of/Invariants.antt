-- SPDX-License-Identifier: GPL-2.0-only
use Rattle.shr_audit_rows.proofs.Common.{take, AreTries}
use Rattle.shr_audit_rows.proofs.tried.tries_of.Given as goal

abbrev pub invariant-loop-n : goal.invariant-loop-n
invariant-loop-n l = AreTries (take l.n l.uses) l.tries.tried l.tries.counts.items
