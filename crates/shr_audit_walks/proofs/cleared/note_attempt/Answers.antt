-- SPDX-License-Identifier: GPL-2.0-only
use Rattle.shr_audit_walks.proofs.LaterCommon.{ℕ, true, cond, ◌∙◌, ◌∷◌, [], sym, ap, subst, nat_eq, contains, Place, Attempt, place_in, Clears}
use Rattle.shr_model.specs.Attempts.{is_clearing}
use Rattle.shr_audit_walks.proofs.Citing.{fits_so}
use Rattle.shr_audit_walks.proofs.Clearing.{attempt_clears, attempt_leaves, clears_one}
use Rattle.shr_audit_walks.proofs.cleared.note_attempt.Goals as goal

pub returns-then-not-is_clearing : goal.returns-then-not-is_clearing
returns-then-not-is_clearing c = attempt_leaves c.args.walk.now c.args.attempt.now c.args.cleared.now (sym (c.is_clearing.ensures ∙ ap is_clearing c.outcome.ensures) ∙ c.if-not-is_clearing.true)

pub returns : goal.returns
returns c =
    let old = c.args.cleared.now in
    let new = c.insert.new.self in
    let here = c.place_in-place.result in
    attempt_clears c.args.walk.now c.args.attempt.now old new (sym (c.is_clearing.ensures ∙ ap is_clearing c.outcome.ensures) ∙ c.if-not-is_clearing.false)
    (subst (λ (p : Place). Clears old new (p ∷ [])) (c.place_in-place.ensures ∙ ap (λ (a : Attempt). place_in c.args.walk.now a.id) c.attempt.view_is)
    (clears_one old new here (fits_so here c.place_key-key.ensures.group c.place_key-key.ensures.id)
    (λ q. c.in_ok-insert.ensures.updates.0 q ∙ ap (λ (k : ℕ). cond (nat_eq k q) true (contains nat_eq old q)) c.place_key-key.ensures.key)))
