-- SPDX-License-Identifier: GPL-2.0-only
use Rattle.shr_audit_rows.proofs.PooledLaws.{blank_of}
use Rattle.shr_audit_rows.proofs.pooled.Pooled.blank.Goals as goal

pub returns-clause-stands : goal.returns-clause-stands
returns-clause-stands c = blank_of c.args.count c.in_ok-phases.phases.items c.in_ok-decls.decls.items c.in_ok-phases.ensures c.in_ok-decls.ensures
