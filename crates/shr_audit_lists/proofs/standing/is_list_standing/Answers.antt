-- SPDX-License-Identifier: GPL-2.0-only
use Rattle.shr_audit_lists.specs.Standing.{IsPlaceStanding}
use Rattle.shr_audit_lists.proofs.Journals.{asked_of_first, nothing_asked}
use Rattle.shr_audit_lists.proofs.standing.is_list_standing.Goals as goal

pub returns : goal.returns
returns c = asked_of_first (IsPlaceStanding c.args.parents.now c.args.report.now) c.as_slice-ends.result.now c.args.report.now.places.items c.as_slice-ends.ensures c.args.k c.index-ends-k.result c.in_ok-standing.standing c.is_first.result
    c.if-not-is_first.false c.is_first.ensures c.in_ok-standing.ensures

pub returns-then-not-is_first : goal.returns-then-not-is_first
returns-then-not-is_first c = nothing_asked (IsPlaceStanding c.args.parents.now c.args.report.now) c.as_slice-ends.result.now c.args.report.now.places.items c.as_slice-ends.ensures c.args.k c.is_first.result c.if-not-is_first.true c.is_first.ensures
