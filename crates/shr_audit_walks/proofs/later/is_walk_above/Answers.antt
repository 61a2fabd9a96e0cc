-- SPDX-License-Identifier: GPL-2.0-only
use Rattle.shr_audit_walks.proofs.LaterCommon.{◌≡◌, ap, ◌∙◌, subst, get_or, Decides, Attempt, place_in, IsOutcomeAbove}
use Rattle.shr_base.specs.declared.walks.Outcome.{Outcome}
use Rattle.shr_audit_walks.proofs.Citing.{attempt_fails, attempt_more, attempts_all}
use Rattle.shr_audit_walks.proofs.later.is_walk_above.Goals as goal

pub loop-attempt-preserved : goal.loop-attempt-preserved
loop-attempt-preserved c =
    let item = c.attempt-item.result in
    let place : c.place_in-place.result ≡ place_in c.args.walk.now (get_or c.attempts-attempt-items.result.now c.loop-attempt.attempt-index item).id = c.place_in-place.ensures ∙ ap (λ (a : Attempt). place_in c.args.walk.now a.id) (c.attempt.view_is ∙ c.attempt-item.is) in
    attempt_more c.args.cited.now c.args.walk.now c.attempts-attempt-items.result.now c.loop-attempt.attempt-index item c.place_in-place.result place c.is_outcome_above.result c.loop-attempt-test.true
    (subst (λ (o : Outcome). Decides c.is_outcome_above.result (IsOutcomeAbove c.args.cited.now c.place_in-place.result o)) (c.outcome.ensures ∙ ap (λ (a : Attempt). a.outcome) c.attempt-item.is) c.is_outcome_above.ensures)
    c.loop-attempt.invariant c.if-not-is_outcome_above.false

pub returns-then-not-is_outcome_above : goal.returns-then-not-is_outcome_above
returns-then-not-is_outcome_above c =
    let item = c.attempt-item.result in
    let place : c.place_in-place.result ≡ place_in c.args.walk.now (get_or c.attempts-attempt-items.result.now c.loop-attempt.attempt-index item).id = c.place_in-place.ensures ∙ ap (λ (a : Attempt). place_in c.args.walk.now a.id) (c.attempt.view_is ∙ c.attempt-item.is) in
    attempt_fails c.args.cited.now c.args.walk.now c.attempts-attempt-items.result.now c.loop-attempt.attempt-index item c.place_in-place.result place c.is_outcome_above.result c.loop-attempt-test.true
    (subst (λ (o : Outcome). Decides c.is_outcome_above.result (IsOutcomeAbove c.args.cited.now c.place_in-place.result o)) (c.outcome.ensures ∙ ap (λ (a : Attempt). a.outcome) c.attempt-item.is) c.is_outcome_above.ensures)
    c.attempts-attempt-items.ensures c.if-not-is_outcome_above.true

pub returns : goal.returns
returns c = attempts_all c.args.cited.now c.args.walk.now c.attempts-attempt-items.result.now c.loop-attempt.attempt-index c.attempts-attempt-items.ensures c.loop-attempt-test.false c.loop-attempt.invariant
