-- SPDX-License-Identifier: GPL-2.0-only
use Rattle.shr_audit_formed.specs.Each.{IsListFormed}
use Rattle.shr_audit_formed.proofs.Eachs.{each_more, each_all}
use Rattle.shr_audit_formed.proofs.lists.lists_are_well.Goals as goal

pub loop-end-preserved : goal.loop-end-preserved
loop-end-preserved c = each_more IsListFormed c.args.ends.now c.loop-end.end-index c.end-item.result c.loop-end-test.true c.end-item.is c.loop-end.invariant (c.is_list_well.ensures.0 c.if-not-is_list_well.false)

pub returns : goal.returns
returns c = each_all IsListFormed c.args.ends.now c.loop-end.end-index c.loop-end-test.false c.loop-end.invariant
