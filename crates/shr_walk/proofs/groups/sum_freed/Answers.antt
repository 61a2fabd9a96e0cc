-- SPDX-License-Identifier: GPL-2.0-only
use Rattle.shr_walk.proofs.Common.{◌≡◌, ◌∷◌, [], refl, ap, ◌∙◌, arith, get_or, Attempt, freed_in}
use Rattle.shr_walk.proofs.Freed.{freed_step, freed_low}
use Rattle.shr_walk.proofs.groups.sum_freed.Goals as goal

pub loop-attempt-preserved : goal.loop-attempt-preserved
loop-attempt-preserved c = let inv = c.loop-attempt.invariant in let lt = c.loop-attempt-test.true in let l = c.args.attempts.now in let i = c.loop-attempt.attempt-index in let item = c.attempt-item.result in
    let one : c.freed_by-freed.result ≡ freed_in (get_or l i item ∷ []) = c.freed_by-freed.ensures ∙ ap (λ (a : Attempt). freed_in (a ∷ [])) c.attempt-item.is in
    (freed_step l i item c.loop-attempt.freed c.freed_by-freed.result lt inv.0 one, freed_low l i item c.loop-attempt.freed c.freed_by-freed.result lt c.requires.few inv.1 one, omega (arith, lt), refl)
