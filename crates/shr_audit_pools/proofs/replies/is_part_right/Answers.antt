-- SPDX-License-Identifier: GPL-2.0-only
use Rattle.shr_audit_pools.proofs.Common.{ℕ, Answered, commands_of, more_at, HasRight, item_fails, items_whole}
use Rattle.shr_audit_pools.proofs.Loops.{right_here}
use Rattle.shr_audit_pools.proofs.replies.is_part_right.Goals as goal

pub returns-then-not-has_right : goal.returns-then-not-has_right
returns-then-not-has_right c =
    let s = c.args.script.now in
    let r = c.args.report.now in
    item_fails (λ (n : ℕ) (a : Answered). HasRight s r c.args.worker (commands_of s c.args.worker) n a) c.as_slice-answers.result.now c.args.part.now.answers.items c.loop-n.n c.index-answers-n.result c.has_right.result c.as_slice-answers.ensures c.loop-n-test.true c.index-answers-n.is
    (right_here s r c.args.worker c.loop-n.n c.commands_of-commands.result.now c.index-answers-n.result c.has_right.result c.commands_of-commands.ensures c.has_right.ensures) c.if-not-has_right.true

pub loop-n-preserved : goal.loop-n-preserved
loop-n-preserved c =
    let s = c.args.script.now in
    let r = c.args.report.now in
    more_at (λ (n : ℕ) (a : Answered). HasRight s r c.args.worker (commands_of s c.args.worker) n a) c.as_slice-answers.result.now c.loop-n.n c.index-answers-n.result c.loop-n-test.true c.index-answers-n.is c.loop-n.invariant
    ((right_here s r c.args.worker c.loop-n.n c.commands_of-commands.result.now c.index-answers-n.result c.has_right.result c.commands_of-commands.ensures c.has_right.ensures).0 c.if-not-has_right.false)

pub returns : goal.returns
returns c = items_whole (λ (n : ℕ) (a : Answered). HasRight c.args.script.now c.args.report.now c.args.worker (commands_of c.args.script.now c.args.worker) n a) c.as_slice-answers.result.now c.args.part.now.answers.items c.loop-n.n c.as_slice-answers.ensures c.loop-n-test.false c.loop-n.invariant
