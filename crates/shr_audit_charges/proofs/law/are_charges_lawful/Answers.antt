-- SPDX-License-Identifier: GPL-2.0-only
use Rattle.shr_audit_charges.proofs.WholeLaw.{decided}
use Rattle.shr_audit_charges.proofs.law.are_charges_lawful.Goals as goal

pub returns : goal.returns
returns c = decided c.args.script.now c.args.report.now c.in_ok-nets.nets (c.in_ok-is_tree_lawful.ensures.0 c.if-not-branch.false) (c.in_ok-are_uses_lawful.ensures.0 c.if-not-branch-2.false) c.in_ok-nets.ensures
