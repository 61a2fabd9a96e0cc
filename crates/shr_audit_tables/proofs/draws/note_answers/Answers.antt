-- SPDX-License-Identifier: GPL-2.0-only
use Rattle.shr_audit_tables.proofs.Common.{answer_draws, flat_all}
use Rattle.shr_audit_tables.proofs.draws.note_answers.Goals as goal
use Rattle.shr_model.proofs.Lists.{flat_more}

pub loop-answer-preserved : goal.loop-answer-preserved
loop-answer-preserved c = flat_more answer_draws c.args.answers.now c.loop-answer.answer-index c.answer-item.result c.args.keys.now.items c.loop-answer.keys.items c.note_answer.new.keys.items c.loop-answer-test.true c.answer-item.is c.loop-answer.invariant c.in_ok-note_answer.ensures

pub returns : goal.returns
returns c = flat_all answer_draws c.args.answers.now c.loop-answer.answer-index c.args.keys.now.items c.loop-answer.keys.items c.loop-answer-test.false c.loop-answer.invariant
