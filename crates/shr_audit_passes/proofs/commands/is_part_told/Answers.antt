-- SPDX-License-Identifier: GPL-2.0-only
use Rattle.shr_audit_passes.proofs.Common.{ℕ, sym, ap, Decides, Answered, more_at, IsAnswerTold, option_copied}
use Rattle.shr_audit_passes.proofs.Answered.{answer_decided, part_fails, part_whole}
use Rattle.shr_audit_passes.proofs.commands.is_part_told.Goals as goal

pub returns-then-not-is_answer_told : goal.returns-then-not-is_answer_told
returns-then-not-is_answer_told c =
    let s = c.args.script.now in
    let a = c.index-answers-n.result in
    let dec : Decides c.is_answer_told.result (IsAnswerTold s c.args.worker c.args.part.now.walks.items c.loop-n.n a) =
    answer_decided s c.args.worker c.loop-n.n (option_copied c.command_in-command.result) c.walks_of.result.now c.as_slice-walks.result.now c.args.part.now.walks.items _ a c.is_answer_told.result
    c.command_in-command.ensures c.walks_of.ensures c.as_slice-walks.ensures (ap (λ (x : Answered). x.reply) (sym c.index-answers-n.is)) (c.is_answer_told.ensures s c.requires.many) in
    part_fails s c.args.worker c.args.part.now c.as_slice-answers.result.now c.loop-n.n a c.is_answer_told.result c.as_slice-answers.ensures c.loop-n-test.true c.index-answers-n.is dec c.if-not-is_answer_told.true

pub loop-n-preserved : goal.loop-n-preserved
loop-n-preserved c =
    let s = c.args.script.now in
    let a = c.index-answers-n.result in
    let dec : Decides c.is_answer_told.result (IsAnswerTold s c.args.worker c.args.part.now.walks.items c.loop-n.n a) =
    answer_decided s c.args.worker c.loop-n.n (option_copied c.command_in-command.result) c.walks_of.result.now c.as_slice-walks.result.now c.args.part.now.walks.items _ a c.is_answer_told.result
    c.command_in-command.ensures c.walks_of.ensures c.as_slice-walks.ensures (ap (λ (x : Answered). x.reply) (sym c.index-answers-n.is)) (c.is_answer_told.ensures s c.requires.many) in
    more_at (λ (n : ℕ) (x : Answered). IsAnswerTold s c.args.worker c.args.part.now.walks.items n x) c.as_slice-answers.result.now c.loop-n.n a c.loop-n-test.true c.index-answers-n.is c.loop-n.invariant (dec.0 c.if-not-is_answer_told.false)

pub returns : goal.returns
returns c = part_whole c.args.script.now c.args.worker c.args.part.now c.as_slice-answers.result.now c.loop-n.n c.as_slice-answers.ensures c.loop-n-test.false c.loop-n.invariant
