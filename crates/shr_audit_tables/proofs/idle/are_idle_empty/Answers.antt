-- SPDX-License-Identifier: GPL-2.0-only
use Rattle.shr_audit_tables.proofs.IdleLaw.{idle_decided}
use Rattle.shr_audit_tables.proofs.idle.are_idle_empty.Goals as goal

pub returns : goal.returns
returns c = idle_decided c.args.case.now.parents.items c.args.report.now c.args.states.now c.as_slice.result.now _ c.requires.states c.requires.none_past c.as_slice.ensures c.are_empty_if_idle-empty.ensures
