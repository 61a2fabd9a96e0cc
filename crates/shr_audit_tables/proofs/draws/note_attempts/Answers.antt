-- SPDX-License-Identifier: GPL-2.0-only
use Rattle.shr_audit_tables.proofs.Common.{attempt_draws, flat_all}
use Rattle.shr_audit_tables.proofs.draws.note_attempts.Goals as goal
use Rattle.shr_model.proofs.Lists.{flat_more}

pub loop-attempt-preserved : goal.loop-attempt-preserved
loop-attempt-preserved c = flat_more attempt_draws c.args.attempts.now c.loop-attempt.attempt-index c.attempt-item.result c.args.keys.now.items c.loop-attempt.keys.items c.note_attempt.new.keys.items c.loop-attempt-test.true c.attempt-item.is c.loop-attempt.invariant c.in_ok-note_attempt.ensures

pub returns : goal.returns
returns c = flat_all attempt_draws c.args.attempts.now c.loop-attempt.attempt-index c.args.keys.now.items c.loop-attempt.keys.items c.loop-attempt-test.false c.loop-attempt.invariant
