-- SPDX-License-Identifier: GPL-2.0-only
use Rattle.std.proofs.Common.{refl}
use Rattle.shr_audit_rows.proofs.PooledLaws.{start_stands}
use Rattle.shr_audit_rows.proofs.pooled.Pooled.start.Goals as goal

pub returns-clause-stands : goal.returns-clause-stands
returns-clause-stands c = start_stands 65536 c.in_ok-pooled.pooled.phases.items c.in_ok-pooled.pooled.decls.items refl c.in_ok-pooled.ensures.stands
