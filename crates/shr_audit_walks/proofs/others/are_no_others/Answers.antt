-- SPDX-License-Identifier: GPL-2.0-only
use Rattle.shr_audit_walks.proofs.OthersLaw.{others_all, others_fail, others_more}
use Rattle.shr_audit_walks.proofs.others.are_no_others.Goals as goal

pub returns-then-not-is_list_of_passes : goal.returns-then-not-is_list_of_passes
returns-then-not-is_list_of_passes c =
    others_fail c.args.report.now c.as_slice-ends.result.now c.loop-k.k c.is_list_of_passes.result c.requires.numbers c.as_slice-ends.ensures c.loop-k-test.true
    (λ end at. c.is_list_of_passes.ensures c.args.report.now end c.in_ok-passes.ensures at) c.if-not-is_list_of_passes.true

pub loop-k-preserved : goal.loop-k-preserved
loop-k-preserved c =
    others_more c.args.report.now c.as_slice-ends.result.now c.loop-k.k c.is_list_of_passes.result
    (λ end at. c.is_list_of_passes.ensures c.args.report.now end c.in_ok-passes.ensures at) c.if-not-is_list_of_passes.false c.loop-k.invariant

pub returns : goal.returns
returns c = others_all c.args.report.now c.as_slice-ends.result.now c.loop-k.k c.requires.numbers c.as_slice-ends.ensures c.loop-k-test.false c.loop-k.invariant
