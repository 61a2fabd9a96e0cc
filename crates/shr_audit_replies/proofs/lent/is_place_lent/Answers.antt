-- SPDX-License-Identifier: GPL-2.0-only
use Rattle.shr_audit_replies.proofs.LendingCommon.{List, [], sym, ap, ◌∙◌, Entry, lists_moved_at, values_from, journals_of}
use Rattle.shr_audit_replies.proofs.Places.{lent_at}
use Rattle.shr_audit_replies.proofs.lent.is_place_lent.Goals as goal

pub returns : goal.returns
returns c =
    let parents = c.args.case.now.parents.items in
    let moved = lists_moved_at parents (journals_of c.args.report.now) c.args.place in
    lent_at parents c.args.report.now c.args.place c.journal_at-entries.result.now c.journal_at-entries.ensures c.are_lent-lent.result
    (c.are_lent-lent.ensures moved (c.values-found.ensures ∙ ap (λ (es : List Entry). values_from 0 moved [] es) (sym c.journal_at-entries.ensures)))
