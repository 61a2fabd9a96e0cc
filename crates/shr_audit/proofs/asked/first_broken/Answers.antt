-- SPDX-License-Identifier: GPL-2.0-only
use Rattle.shr_audit.proofs.Common.{arith, is_tree}
use Rattle.shr_audit.proofs.Premises.{few_groups}
use Rattle.shr_audit.proofs.Order.{held_none, held_more, first_broken, all_held}
use Rattle.shr_audit.proofs.asked.first_broken.Goals as goal

pub of-requires-clause-tree : goal.of-requires-clause-tree
of-requires-clause-tree c = is_tree c.args.script.now c.requires.valid

pub of-requires-clause-few : goal.of-requires-clause-few
of-requires-clause-few c = few_groups c.args.script.now c.requires.valid

pub loop-law-init : goal.loop-law-init
loop-law-init c = held_none c.args.script.now c.args.report.now

pub loop-law-preserved : goal.loop-law-preserved
loop-law-preserved c = held_more c.loop-law.law-index c.args.script.now c.args.report.now c.loop-law.invariant (c.in_ok-held.ensures.0 c.if-not-held.false)

pub returns-then-not-held-clause-some : goal.returns-then-not-held-clause-some
returns-then-not-held-clause-some c =
    first_broken c.loop-law.law-index c.args.script.now c.args.report.now c.in_ok-held.held c.loop-law-test.true c.loop-law.invariant c.in_ok-held.ensures c.if-not-held.true

pub returns-clause-none : goal.returns-clause-none
returns-clause-none c = all_held c.args.script.now c.args.report.now (λ law le. c.loop-law.invariant law (omega (arith, le, c.loop-law-test.false)))
