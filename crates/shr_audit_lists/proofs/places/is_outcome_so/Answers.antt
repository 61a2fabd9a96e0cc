-- SPDX-License-Identifier: GPL-2.0-only
use Rattle.shr_audit_lists.specs.Fields.{IsOutcomeSo}
use Rattle.shr_audit_lists.proofs.Journals.{asked_of_first, nothing_asked}
use Rattle.shr_audit_lists.proofs.places.is_outcome_so.Goals as goal

pub returns-then-not-is_first : goal.returns-then-not-is_first
returns-then-not-is_first c = nothing_asked (IsOutcomeSo c.args.case.now.parents.items c.args.report.now) c.as_slice-ends.result.now c.args.report.now.places.items c.as_slice-ends.ensures c.args.k c.is_first.result c.if-not-is_first.true c.is_first.ensures

pub returns : goal.returns
returns c = asked_of_first (IsOutcomeSo c.args.case.now.parents.items c.args.report.now) c.as_slice-ends.result.now c.args.report.now.places.items c.as_slice-ends.ensures c.args.k c.index-ends-k.result c.outcomes_are_so-so.result c.is_first.result
    c.if-not-is_first.false c.is_first.ensures c.outcomes_are_so-so.ensures
