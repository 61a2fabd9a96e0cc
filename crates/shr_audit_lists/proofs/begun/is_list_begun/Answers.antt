-- SPDX-License-Identifier: GPL-2.0-only
use Rattle.shr_audit_lists.specs.Begun.{IsBegunIfClosed}
use Rattle.shr_audit_lists.proofs.Journals.{asked_of_first}
use Rattle.shr_audit_lists.proofs.begun.is_list_begun.Goals as goal

pub returns : goal.returns
returns c = λ parents told. asked_of_first (IsBegunIfClosed parents c.args.report.now) c.as_slice-ends.result.now c.args.report.now.places.items c.as_slice-ends.ensures c.args.k c.index-ends-k.result c.is_place_begun-so.result c.is_first.result
    c.if-not-is_first.false c.is_first.ensures (c.is_place_begun-so.ensures parents told)
