-- SPDX-License-Identifier: GPL-2.0-only
use Rattle.shr_audit_reasons.proofs.Common.{List, subst, Decides, WorkerPart, each_walk_of, EachItem, CitesBegin}
use Rattle.shr_audit_reasons.proofs.walks.walks_begin.Goals as goal

pub returns : goal.returns
returns c =
    let r = c.args.report.now in
    let b = c.parts_begin-all.result in
    each_walk_of r (λ worker n w. CitesBegin r w) b
    (subst (λ (parts : List WorkerPart). Decides b (EachItem (λ part. EachItem (λ w. CitesBegin r w) part.walks.items) parts)) c.as_slice.ensures c.parts_begin-all.ensures)
