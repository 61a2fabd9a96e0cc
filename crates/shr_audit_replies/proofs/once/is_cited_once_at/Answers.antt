-- SPDX-License-Identifier: GPL-2.0-only
use Rattle.shr_audit_replies.proofs.OnceCommon.{List, subst, Decides, PlaceEnd, IsPrintedOnce}
use Rattle.shr_audit_replies.proofs.OnceLaws.{cites_one}
use Rattle.shr_audit_replies.proofs.once.is_cited_once_at.Goals as goal

pub returns : goal.returns
returns c =
    let at = c.in-Some-cited_by.at in
    let once : Decides c.is_printed_once.result (IsPrintedOnce c.args.report.now.places.items at.place) =
    subst (λ (es : List PlaceEnd). Decides c.is_printed_once.result (IsPrintedOnce es at.place)) c.as_slice.ensures c.is_printed_once.ensures in
    cites_one c.args.report.now c.args.worker c.args.number c.in-Some.answer.now c.in-Some.ensures at c.is_printed_once.result c.in-Some-cited_by.ensures once
