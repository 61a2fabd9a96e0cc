-- SPDX-License-Identifier: GPL-2.0-only
use Rattle.shr_audit_reasons.proofs.SpentCommon.{◌≡◌, ℕ, List, Some, slice_get, subst, Decides, WorkerPart, PlainTry, EachItem, IsTryCaused, IsTrySpent, EachTry}
use Rattle.shr_audit_reasons.proofs.Finding.{each_plain_of}
use Rattle.shr_audit_reasons.proofs.plain.are_tries_caused.Goals as goal

pub returns : goal.returns
returns c =
    let s = c.args.script.now in
    let r = c.args.report.now in
    let b = c.are_parts_caused-all.result in
    let parts : Decides b (EachItem (λ (part : WorkerPart). EachItem (λ w. (pool : ℕ) (x : PlainTry) → slice_get w.tries.items pool ≡ Some x → IsTryCaused s r w.node pool x) part.plain.items) r.workers.items) =
    subst (λ (ps : List WorkerPart). Decides b (EachItem (λ (part : WorkerPart). EachItem (λ w. (pool : ℕ) (x : PlainTry) → slice_get w.tries.items pool ≡ Some x → IsTryCaused s r w.node pool x) part.plain.items) ps)) c.as_slice.ensures c.are_parts_caused-all.ensures in
    each_plain_of r (λ worker n w. EachTry s w (λ pool place d x. IsTrySpent r place x)) b (
      λ t worker part is n w at pool d x decl tried. parts.0 t worker part is n w at pool x tried d decl,
      λ all. parts.1 (λ worker part is n w at pool x tried d decl. all worker part is n w at pool d x decl tried),
    )
