-- SPDX-License-Identifier: GPL-2.0-only
use Rattle.shr_audit_tables.proofs.Common.{◌≡◌, ◌++◌, take, flat_map, answer_draws}
use Rattle.shr_audit_tables.proofs.draws.note_answers.Given as goal

abbrev pub invariant-loop-answer : goal.invariant-loop-answer
invariant-loop-answer l = l.keys.items ≡ l.fn.keys.items ++ flat_map answer_draws (take l.answer-index l.answers)
