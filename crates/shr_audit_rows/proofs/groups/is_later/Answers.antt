-- SPDX-License-Identifier: GPL-2.0-only
use Rattle.shr_audit_rows.proofs.Common.{false, GroupDecl}
use Rattle.shr_audit_rows.proofs.GroupLaws.{group_none, group_root, group_some}
use Rattle.shr_audit_rows.proofs.groups.is_later.Goals as goal

pub returns-then-group-eq0 : goal.returns-then-group-eq0
returns-then-group-eq0 c = group_root (λ (g : GroupDecl). g.later) false c.args.script.now.groups.items c.args.group c.if-group-eq0.true

pub returns-in-Some : goal.returns-in-Some
returns-in-Some c = group_some (λ (g : GroupDecl). g.later) false c.args.script.now.groups.items c.args.group c.in-Some.decl.now c.if-group-eq0.false c.in-Some.ensures

pub returns-in-None : goal.returns-in-None
returns-in-None c = group_none (λ (g : GroupDecl). g.later) false c.args.script.now.groups.items c.args.group c.if-group-eq0.false c.in-None.ensures
