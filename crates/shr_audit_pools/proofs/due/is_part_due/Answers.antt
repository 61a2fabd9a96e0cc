-- SPDX-License-Identifier: GPL-2.0-only
use Rattle.shr_audit_pools.proofs.DueCommon.{ℕ, refl, Decides, Answered, commands_of, more_at, HasDue, plain_walks_with}
use Rattle.shr_audit_pools.proofs.Dues.{answer_due, part_fails, part_whole}
use Rattle.shr_audit_pools.proofs.due.is_part_due.Goals as goal

pub returns-then-not-has_due : goal.returns-then-not-has_due
returns-then-not-has_due c =
    let s = c.args.script.now in
    let a = c.index-answers-n.result in
    let dec : Decides c.has_due.result (HasDue s (commands_of s c.args.worker) c.loop-n.n a (plain_walks_with c.args.part.now.plain.items c.loop-n.n)) =
    answer_due s c.args.worker c.loop-n.n c.commands_of-commands.result.now c.walks_of.result.now c.as_slice-walks.result.now c.args.part.now.plain.items _ a c.has_due.result
    c.commands_of-commands.ensures c.walks_of.ensures c.as_slice-walks.ensures refl c.has_due.ensures in
    part_fails s c.args.worker c.args.part.now c.as_slice-answers.result.now c.loop-n.n a c.has_due.result c.as_slice-answers.ensures c.loop-n-test.true c.index-answers-n.is dec c.if-not-has_due.true

pub loop-n-preserved : goal.loop-n-preserved
loop-n-preserved c =
    let s = c.args.script.now in
    let a = c.index-answers-n.result in
    let dec : Decides c.has_due.result (HasDue s (commands_of s c.args.worker) c.loop-n.n a (plain_walks_with c.args.part.now.plain.items c.loop-n.n)) =
    answer_due s c.args.worker c.loop-n.n c.commands_of-commands.result.now c.walks_of.result.now c.as_slice-walks.result.now c.args.part.now.plain.items _ a c.has_due.result
    c.commands_of-commands.ensures c.walks_of.ensures c.as_slice-walks.ensures refl c.has_due.ensures in
    more_at (λ (n : ℕ) (x : Answered). HasDue s (commands_of s c.args.worker) n x (plain_walks_with c.args.part.now.plain.items n)) c.as_slice-answers.result.now c.loop-n.n a c.loop-n-test.true c.index-answers-n.is c.loop-n.invariant (dec.0 c.if-not-has_due.false)

pub returns : goal.returns
returns c = part_whole c.args.script.now c.args.worker c.args.part.now c.as_slice-answers.result.now c.loop-n.n c.as_slice-answers.ensures c.loop-n-test.false c.loop-n.invariant
