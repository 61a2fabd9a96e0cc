-- SPDX-License-Identifier: GPL-2.0-only
use Rattle.shr_audit_rows.proofs.Common.{List, subst, Decides, EachItem, Asked, IsAskedRight}
use Rattle.shr_audit_rows.proofs.KnownLaws.{in_any_order}
use Rattle.shr_audit_rows.proofs.known.are_declarations_so.Goals as goal

pub returns : goal.returns
returns c =
    let s = c.args.script.now in
    let r = c.args.report.now in
    let b = c.in_ok-all.all in
    in_any_order s r c.in_ok-asked.asked.items c.in_ok-asked-2.asked.items b c.in_ok-asked.ensures c.in_ok-asked-2.ensures.same
    (subst (λ (xs : List Asked). Decides b (EachItem (IsAskedRight s r) xs)) c.as_slice.ensures.value c.in_ok-all.ensures)
