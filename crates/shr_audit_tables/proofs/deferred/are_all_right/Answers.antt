-- SPDX-License-Identifier: GPL-2.0-only
use Rattle.shr_audit_tables.proofs.Common.{length, slice_get_read, refl, WorkerPart, IsCarryRight, EachItem, each_more, each_all}
use Rattle.shr_audit_tables.proofs.Steps.{along, failed}
use Rattle.shr_audit_tables.proofs.deferred.are_all_right.Goals as goal

pub returns-then-not-are_carries_right : goal.returns-then-not-are_carries_right
returns-then-not-are_carries_right c =
    let P = IsCarryRight c.args.script.now c.args.report.now in
    let part = c.part-item.result in
    let here = along (EachItem P) c.are_carries_right.result _ part.carries.items c.as_slice.ensures c.are_carries_right.ensures in
    let at = slice_get_read c.args.parts.now (length c.args.parts.now) c.loop-part.part-index part refl c.loop-part-test.true c.part-item.is in
    (λ t. absurd cc, λ h. absurd (failed (EachItem P part.carries.items) c.are_carries_right.result here c.if-not-are_carries_right.true (h c.loop-part.part-index part at)))

pub loop-part-preserved : goal.loop-part-preserved
loop-part-preserved c =
    let P = IsCarryRight c.args.script.now c.args.report.now in
    let part = c.part-item.result in
    let here = along (EachItem P) c.are_carries_right.result _ part.carries.items c.as_slice.ensures c.are_carries_right.ensures in
    each_more (λ (x : WorkerPart). EachItem P x.carries.items) c.args.parts.now c.loop-part.part-index part c.loop-part-test.true c.part-item.is c.loop-part.invariant (here.0 c.if-not-are_carries_right.false)

pub returns : goal.returns
returns c = each_all (λ (x : WorkerPart). EachItem (IsCarryRight c.args.script.now c.args.report.now) x.carries.items) c.args.parts.now c.loop-part.part-index c.loop-part-test.false c.loop-part.invariant
