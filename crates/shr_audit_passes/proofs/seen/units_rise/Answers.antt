-- SPDX-License-Identifier: GPL-2.0-only
use Rattle.shr_audit_passes.proofs.Common.{◌+◌, ◌/◌, arith, MapSeen}
use Rattle.shr_audit_passes.proofs.Rising.{too_many, not_rising, all_rising, one_more}
use Rattle.shr_audit_passes.proofs.seen.units_rise.Goals as goal

pub returns-then-maps-ids : goal.returns-then-maps-ids
returns-then-maps-ids c = too_many (λ (m : MapSeen). m.unit) c.args.maps.now ((c.args.ids + 63) / 64) (omega arith)

pub returns-then-maps-i : goal.returns-then-maps-i
returns-then-maps-i c = not_rising (λ (m : MapSeen). m.unit) c.args.maps.now ((c.args.ids + 63) / 64) c.loop-i.i _ c.if-maps-ids.false c.loop-i-test.true c.if-maps-i.true

pub loop-i-preserved : goal.loop-i-preserved
loop-i-preserved c = one_more (λ (m : MapSeen). m.unit) c.args.maps.now c.loop-i.i _ c.loop-i-test.true c.if-maps-i.false c.loop-i.invariant

pub returns : goal.returns
returns c = all_rising (λ (m : MapSeen). m.unit) c.args.maps.now ((c.args.ids + 63) / 64) c.loop-i.i (omega arith) (omega arith) (omega arith) c.loop-i.invariant
