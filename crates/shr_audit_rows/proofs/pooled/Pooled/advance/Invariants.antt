-- SPDX-License-Identifier: GPL-2.0-only
use Rattle.shr_audit_rows.proofs.Common.{take, Stands}
use Rattle.shr_audit_rows.proofs.pooled.Pooled.advance.Given as goal

abbrev pub invariant-loop-n : goal.invariant-loop-n
invariant-loop-n l = Stands (take l.n l.pool) l.self.phases.items l.self.decls.items
