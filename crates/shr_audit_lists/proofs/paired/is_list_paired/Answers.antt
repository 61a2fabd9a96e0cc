-- SPDX-License-Identifier: GPL-2.0-only
use Rattle.shr_audit_lists.specs.Paired.{IsPairedAround}
use Rattle.shr_audit_lists.proofs.Journals.{asked_of_first, nothing_asked}
use Rattle.shr_audit_lists.proofs.paired.is_list_paired.Goals as goal

pub returns : goal.returns
returns c = asked_of_first (IsPairedAround c.args.parents.now c.args.report.now) c.as_slice-ends.result.now c.args.report.now.places.items c.as_slice-ends.ensures c.args.k c.index-ends-k.result c.is_paired_around-so.result c.is_first.result
    c.if-not-is_first.false c.is_first.ensures c.is_paired_around-so.ensures

pub returns-then-not-is_first : goal.returns-then-not-is_first
returns-then-not-is_first c = nothing_asked (IsPairedAround c.args.parents.now c.args.report.now) c.as_slice-ends.result.now c.args.report.now.places.items c.as_slice-ends.ensures c.args.k c.is_first.result c.if-not-is_first.true c.is_first.ensures
