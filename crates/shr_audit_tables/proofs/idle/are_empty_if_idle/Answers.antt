-- SPDX-License-Identifier: GPL-2.0-only
use Rattle.shr_audit_tables.proofs.Common.{length, refl, slice_get_read, PlaceEnd, IsEmptyIfIdle, each_more, each_all}
use Rattle.shr_audit_tables.proofs.Steps.{failed}
use Rattle.shr_audit_tables.proofs.idle.are_empty_if_idle.Goals as goal

pub returns-then-not-is_empty_if_idle : goal.returns-then-not-is_empty_if_idle
returns-then-not-is_empty_if_idle c =
    let end = c.end-item.result in
    let at = slice_get_read c.args.ends.now (length c.args.ends.now) c.loop-end.end-index end refl c.loop-end-test.true c.end-item.is in
    (λ t. absurd cc, λ h. absurd (failed _ c.is_empty_if_idle.result c.is_empty_if_idle.ensures c.if-not-is_empty_if_idle.true (h c.loop-end.end-index end at)))

pub loop-end-preserved : goal.loop-end-preserved
loop-end-preserved c = each_more (λ (x : PlaceEnd). IsEmptyIfIdle c.args.case.now.parents.items c.args.report.now c.args.states.now x.place) c.args.ends.now c.loop-end.end-index c.end-item.result c.loop-end-test.true c.end-item.is c.loop-end.invariant (c.is_empty_if_idle.ensures.0 c.if-not-is_empty_if_idle.false)

pub returns : goal.returns
returns c = each_all (λ (x : PlaceEnd). IsEmptyIfIdle c.args.case.now.parents.items c.args.report.now c.args.states.now x.place) c.args.ends.now c.loop-end.end-index c.loop-end-test.false c.loop-end.invariant
