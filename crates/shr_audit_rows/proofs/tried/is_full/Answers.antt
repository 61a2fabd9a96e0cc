-- SPDX-License-Identifier: GPL-2.0-only
use Rattle.shr_audit_rows.proofs.OverLaws.{full_at, full_away, full_free, le_decides}
use Rattle.shr_audit_rows.proofs.tried.is_full.Goals as goal

pub returns-in-Some-limit : goal.returns-in-Some-limit
returns-in-Some-limit c = full_at c.args.script.now c.args.group c.args.usage c.in-Some.decl.now c.in-Some-limit.limit _ c.if-group-eq0.false c.in-Some.ensures c.in-Some-limit.is (le_decides c.in-Some-limit.limit c.args.usage)

pub returns-in-None-limit : goal.returns-in-None-limit
returns-in-None-limit c = full_free c.args.script.now c.args.group c.args.usage c.in-Some.decl.now c.if-group-eq0.false c.in-Some.ensures c.in-None-limit.is

pub returns-in-None : goal.returns-in-None
returns-in-None c = full_away c.args.script.now c.args.group c.args.usage c.if-group-eq0.false c.in-None.ensures
