-- SPDX-License-Identifier: GPL-2.0-only
use Rattle.shr_audit_tables.proofs.LookupsCommon.{◌≡◌, ℕ, List, Some, slice_get, subst, Decides, WorkerPart, EachItem, EachAttempt, IsMetRight}
use Rattle.shr_audit_case.proofs.Eachs.{each_walk_of}
use Rattle.shr_audit_tables.proofs.met.are_met_right.Goals as goal

pub returns : goal.returns
returns c =
    let r = c.args.report.now in
    let b = c.are_parts_right-right.result in
    each_walk_of r (λ worker n w. EachAttempt w (IsMetRight r)) b
    (subst (λ (parts : List WorkerPart). Decides b ((worker : ℕ) (part : WorkerPart) → slice_get parts worker ≡ Some part → EachItem (λ w. EachAttempt w (IsMetRight r)) part.walks.items)) c.as_slice-2.ensures c.are_parts_right-right.ensures)
