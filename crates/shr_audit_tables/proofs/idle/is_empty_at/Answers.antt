-- SPDX-License-Identifier: GPL-2.0-only
use Rattle.shr_audit_tables.proofs.IdleLaw.{none_decided}
use Rattle.shr_audit_tables.proofs.idle.is_empty_at.Goals as goal

pub returns : goal.returns
returns c = none_decided _ c.left.result.now c.is_empty.result c.left.ensures c.is_empty.ensures
