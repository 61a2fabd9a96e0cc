-- SPDX-License-Identifier: GPL-2.0-only
use Rattle.shr_audit_isolations.proofs.Common.{ℕ, refl, Decides, Answered, more_at, TellsIsolations}
use Rattle.shr_audit_isolations.proofs.Commanded.{answer_decided, part_fails, part_whole}
use Rattle.shr_audit_isolations.proofs.commands.is_part_told.Goals as goal

pub returns-then-not-is_answer_told : goal.returns-then-not-is_answer_told
returns-then-not-is_answer_told c =
    let s = c.args.script.now in
    let a = c.index-answers-n.result in
    let dec : Decides c.is_answer_told.result (TellsIsolations s c.args.worker c.args.part.now.isolations.items c.loop-n.n a) =
    answer_decided s c.args.worker c.loop-n.n c.commands_of-commands.result.now c.isolations_of.result.now c.as_slice-isolations.result.now c.args.part.now.isolations.items _ a c.is_answer_told.result
    c.commands_of-commands.ensures c.isolations_of.ensures c.as_slice-isolations.ensures refl c.requires.own c.is_answer_told.ensures in
    part_fails s c.args.worker c.args.part.now c.as_slice-answers.result.now c.loop-n.n a c.is_answer_told.result c.as_slice-answers.ensures c.loop-n-test.true c.index-answers-n.is dec c.if-not-is_answer_told.true

pub loop-n-preserved : goal.loop-n-preserved
loop-n-preserved c =
    let s = c.args.script.now in
    let a = c.index-answers-n.result in
    let dec : Decides c.is_answer_told.result (TellsIsolations s c.args.worker c.args.part.now.isolations.items c.loop-n.n a) =
    answer_decided s c.args.worker c.loop-n.n c.commands_of-commands.result.now c.isolations_of.result.now c.as_slice-isolations.result.now c.args.part.now.isolations.items _ a c.is_answer_told.result
    c.commands_of-commands.ensures c.isolations_of.ensures c.as_slice-isolations.ensures refl c.requires.own c.is_answer_told.ensures in
    more_at (λ (n : ℕ) (x : Answered). TellsIsolations s c.args.worker c.args.part.now.isolations.items n x) c.as_slice-answers.result.now c.loop-n.n a c.loop-n-test.true c.index-answers-n.is c.loop-n.invariant (dec.0 c.if-not-is_answer_told.false)

pub returns : goal.returns
returns c = part_whole c.args.script.now c.args.worker c.args.part.now c.as_slice-answers.result.now c.loop-n.n c.as_slice-answers.ensures c.loop-n-test.false c.loop-n.invariant
