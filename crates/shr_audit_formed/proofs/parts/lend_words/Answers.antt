-- SPDX-License-Identifier: GPL-2.0-only
use Rattle.shr_laws.specs.WellFormed.{LendsWord}
use Rattle.shr_audit_formed.proofs.Eachs.{each_more, each_all}
use Rattle.shr_audit_formed.proofs.parts.lend_words.Goals as goal

pub loop-answer-preserved : goal.loop-answer-preserved
loop-answer-preserved c = each_more (λ a. LendsWord a.reply) c.args.answers.now c.loop-answer.answer-index c.answer-item.result c.loop-answer-test.true c.answer-item.is c.loop-answer.invariant (c.lends_word.ensures.0 c.if-not-lends_word.false)

pub returns : goal.returns
returns c = each_all (λ a. LendsWord a.reply) c.args.answers.now c.loop-answer.answer-index c.loop-answer-test.false c.loop-answer.invariant
