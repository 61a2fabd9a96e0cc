-- SPDX-License-Identifier: GPL-2.0-only
use Rattle.shr_audit_walks.proofs.ScansCommon.{◌≡◌, get_or, ap, ◌∙◌, get_or_from_slice_get, PlaceEnd}
use Rattle.shr_audit_walks.proofs.OthersLaw.{list_decided}
use Rattle.shr_audit_walks.proofs.others.is_list_of_passes.Goals as goal

pub returns : goal.returns
returns c = λ r end passes at.
    let here = get_or_from_slice_get c.args.ends.now c.args.k end c.index-ends-k.result at in
    let entries : c.as_slice.result.now ≡ end.entries.items = c.as_slice.ensures ∙ ap (λ (x : PlaceEnd). x.entries.items) (get_or_from_slice_get c.args.ends.now c.args.k end _ at) in
    list_decided r c.args.ends.now c.args.k end (get_or c.args.ends.now c.args.k c.index-ends-k.result) c.as_slice.result.now c.are_of_passes-of_passes.result ((c.is_first.ensures end at).0 c.if-not-is_first.false) here entries
    (c.are_of_passes-of_passes.ensures r passes)
