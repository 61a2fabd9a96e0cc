-- SPDX-License-Identifier: GPL-2.0-only
use Rattle.shr_audit_passes.proofs.Common.{◌≡◌, List, ℕ, ap, subst, ◌∙◌, sum_by, Decides, Attempt, freed_told, attempt_freed}
use Rattle.shr_audit_passes.proofs.Tried.{told_freed}
use Rattle.shr_audit_passes.proofs.alone.is_freed_told.Goals as goal

pub returns : goal.returns
returns c =
    let b = c.frees-told.result in
    let items : Decides b (c.freed_told.result ≡ sum_by attempt_freed c.args.walk.now.attempts.items) = subst (λ (xs : List Attempt). Decides b (c.freed_told.result ≡ sum_by attempt_freed xs)) c.attempts.ensures c.frees-told.ensures in
    told_freed c.args.walk.now (freed_told c.args.walk.now.answer) b (subst (λ (told : ℕ). Decides b (told ≡ sum_by attempt_freed c.args.walk.now.attempts.items)) (c.freed_told.ensures ∙ ap freed_told c.answer.ensures) items)
