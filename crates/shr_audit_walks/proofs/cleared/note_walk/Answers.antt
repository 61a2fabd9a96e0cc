-- SPDX-License-Identifier: GPL-2.0-only
use Rattle.shr_audit_walks.proofs.LaterCommon.{subst, ap, ◌∙◌, List, flat_map, Place, Attempt, Clears, cleared_by}
use Rattle.shr_audit_walks.proofs.Clearing.{by_attempts, clears_all, clears_more}
use Rattle.shr_audit_walks.proofs.cleared.note_walk.Goals as goal

pub loop-attempt-preserved : goal.loop-attempt-preserved
loop-attempt-preserved c = clears_more (cleared_by c.args.walk.now) c.attempts-attempt-items.result.now c.args.cleared.now c.loop-attempt.cleared c.note_attempt.new.cleared c.loop-attempt.attempt-index c.attempt-item.result c.loop-attempt-test.true c.loop-attempt.invariant
    (subst (λ (a : Attempt). Clears c.loop-attempt.cleared c.note_attempt.new.cleared (cleared_by c.args.walk.now a)) c.attempt-item.is c.in_ok-note_attempt.ensures)

pub returns : goal.returns
returns c = subst (λ (ps : List Place). Clears c.args.cleared.now c.loop-attempt.cleared ps) (ap (λ (tries : List Attempt). flat_map (cleared_by c.args.walk.now) tries) c.attempts-attempt-items.ensures ∙ by_attempts c.args.walk.now c.args.walk.now.attempts.items)
    (clears_all (cleared_by c.args.walk.now) c.attempts-attempt-items.result.now c.args.cleared.now c.loop-attempt.cleared c.loop-attempt.cleared c.loop-attempt.attempt-index c.loop-attempt-test.false c.loop-attempt.invariant)
