-- SPDX-License-Identifier: GPL-2.0-only
use Rattle.shr_audit_walks.proofs.VersionsCommon.{◌≡◌, ap, ◌∙◌, subst, get_or, map, Place, Notes, if_here, place_in, counts_of}
use Rattle.shr_audit_walks.proofs.VersionsNoting.{walk_all, walk_falls, walk_more}
use Rattle.shr_base.specs.Walks.{Attempt}
use Rattle.shr_base.specs.declared.walks.Outcome.{Outcome}
use Rattle.shr_audit_walks.proofs.version_walks.note_walk.Goals as goal

pub loop-attempt-preserved : goal.loop-attempt-preserved
loop-attempt-preserved c =
    let item = c.attempt-item.result in
    let place : c.place_in-place.result ≡ place_in c.args.walk.now (get_or c.attempts-attempt-items.result.now c.loop-attempt.attempt-index item).id = c.place_in-place.ensures ∙ ap (λ (a : Attempt). place_in c.args.walk.now a.id) (c.attempt.view_is ∙ c.attempt-item.is) in
    walk_more c.args.walk.now c.attempts-attempt-items.result.now c.args.versions.now c.loop-attempt.versions c.note_outcome.new.versions c.loop-attempt.attempt-index c.in_ok-note_outcome.field-0 item c.place_in-place.result place
    c.loop-attempt-test.true c.loop-attempt.invariant
    (subst (λ (o : Outcome). Notes c.loop-attempt.versions c.note_outcome.new.versions c.in_ok-note_outcome.field-0 (if_here c.place_in-place.result (map (λ v. v.version) (counts_of o)))) (c.outcome.ensures ∙ ap (λ (a : Attempt). a.outcome) c.attempt-item.is) c.in_ok-note_outcome.ensures)
    c.if-not-branch.false

pub returns-then-not-branch : goal.returns-then-not-branch
returns-then-not-branch c =
    let item = c.attempt-item.result in
    let place : c.place_in-place.result ≡ place_in c.args.walk.now (get_or c.attempts-attempt-items.result.now c.loop-attempt.attempt-index item).id = c.place_in-place.ensures ∙ ap (λ (a : Attempt). place_in c.args.walk.now a.id) (c.attempt.view_is ∙ c.attempt-item.is) in
    walk_falls c.args.walk.now c.attempts-attempt-items.result.now c.args.versions.now c.loop-attempt.versions c.note_outcome.new.versions c.loop-attempt.attempt-index c.in_ok-note_outcome.field-0 item c.place_in-place.result place
    c.loop-attempt-test.true c.loop-attempt.invariant
    (subst (λ (o : Outcome). Notes c.loop-attempt.versions c.note_outcome.new.versions c.in_ok-note_outcome.field-0 (if_here c.place_in-place.result (map (λ v. v.version) (counts_of o)))) (c.outcome.ensures ∙ ap (λ (a : Attempt). a.outcome) c.attempt-item.is) c.in_ok-note_outcome.ensures)
    c.if-not-branch.true c.attempts-attempt-items.ensures

pub returns : goal.returns
returns c = walk_all c.args.walk.now c.attempts-attempt-items.result.now c.args.versions.now c.loop-attempt.versions c.loop-attempt.versions c.loop-attempt.attempt-index c.loop-attempt-test.false c.attempts-attempt-items.ensures c.loop-attempt.invariant
