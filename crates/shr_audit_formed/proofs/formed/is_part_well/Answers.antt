-- SPDX-License-Identifier: GPL-2.0-only
use Rattle.shr_audit_formed.proofs.Common.{List, length, subst, Decides, Answered, WalkRecord, IsPartFormed, AreWalksFormed}
use Rattle.shr_audit_formed.proofs.Eachs.{fails}
use Rattle.shr_audit_formed.proofs.formed.is_part_well.Goals as goal

pub returns-then-not-are_walks_well : goal.returns-then-not-are_walks_well
returns-then-not-are_walks_well c =
    let b = c.are_walks_well.result in
    let n = length c.args.part.now.answers.items in
    let first : Decides b (AreWalksFormed c.args.worker (length c.as_slice-answers.result.now) c.args.part.now.walks.items) = subst (λ (xs : List WalkRecord). Decides b (AreWalksFormed c.args.worker (length c.as_slice-answers.result.now) xs)) c.as_slice.ensures c.are_walks_well.ensures in
    let walks : Decides b (AreWalksFormed c.args.worker n c.args.part.now.walks.items) = subst (λ (xs : List Answered). Decides b (AreWalksFormed c.args.worker (length xs) c.args.part.now.walks.items)) c.as_slice-answers.ensures first in
    fails (AreWalksFormed c.args.worker n c.args.part.now.walks.items) (IsPartFormed c.args.worker c.args.part.now) b walks c.if-not-are_walks_well.true (λ h. h.1.0)
