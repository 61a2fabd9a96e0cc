-- SPDX-License-Identifier: GPL-2.0-only
use Rattle.shr_audit_reasons.proofs.Common.{◌≡◌, ℕ, List, Some, slice_get, subst, Decides, WorkerPart, each_walk_of, EachItem, EachAttempt, IsAttemptCaused, decides_iff, EachWalk, IsWornRightly}
use Rattle.shr_audit_reasons.proofs.Wearing.{caused_rightly, rightly_caused}
use Rattle.shr_audit_reasons.proofs.attempts.are_attempts_caused.Goals as goal

pub returns : goal.returns
returns c =
    let s = c.args.script.now in
    let r = c.args.report.now in
    let b = c.parts_are_worn-all.result in
    decides_iff b (EachWalk r (λ worker n w. EachAttempt w (λ a. IsAttemptCaused s r worker a))) (EachWalk r (λ worker n w. EachAttempt w (λ a. IsWornRightly s r worker a)))
    (λ all worker n w at k a there. caused_rightly s r worker a.id a.outcome (all worker n w at k a there))
    (λ all worker n w at k a there. rightly_caused s r worker a.id a.outcome (all worker n w at k a there))
    (each_walk_of r (λ worker n w. EachAttempt w (λ a. IsAttemptCaused s r worker a)) b
    (subst (λ (parts : List WorkerPart). Decides b ((worker : ℕ) (part : WorkerPart) → slice_get parts worker ≡ Some part → EachItem (λ w. EachAttempt w (λ a. IsAttemptCaused s r worker a)) part.walks.items)) c.as_slice.ensures c.parts_are_worn-all.ensures))
