-- SPDX-License-Identifier: GPL-2.0-only
use Rattle.shr_audit_reasons.proofs.SpentCommon.{◌≡◌, ℕ, List, Some, slice_get, subst, Decides, WorkerPart, EachItem, EachAttempt, IsRunCaused}
use Rattle.shr_audit_case.proofs.Eachs.{each_walk_of}
use Rattle.shr_audit_reasons.proofs.passes.are_passes_caused.Goals as goal

pub returns : goal.returns
returns c =
    let s = c.args.script.now in
    let r = c.args.report.now in
    let b = c.are_parts_caused-all.result in
    each_walk_of r (λ worker n w. EachAttempt w (λ a. IsRunCaused s r worker w a)) b
    (subst (λ (parts : List WorkerPart). Decides b ((worker : ℕ) (part : WorkerPart) → slice_get parts worker ≡ Some part → EachItem (λ w. EachAttempt w (λ a. IsRunCaused s r worker w a)) part.walks.items)) c.as_slice.ensures c.are_parts_caused-all.ensures)
