-- SPDX-License-Identifier: GPL-2.0-only
use Rattle.shr_audit_passes.proofs.Common.{◌+◌, ◌/◌, MapSeen}
use Rattle.shr_audit_passes.proofs.Rising.{other_length, whole_prefix}
use Rattle.shr_audit_passes.proofs.alone.are_units.Goals as goal

pub returns-then-maps-ids : goal.returns-then-maps-ids
returns-then-maps-ids c = other_length (λ (m : MapSeen). m.unit) c.args.maps.now ((c.args.ids + 63) / 64) c.if-maps-ids.true

pub returns : goal.returns
returns c = whole_prefix (λ (m : MapSeen). m.unit) c.args.maps.now ((c.args.ids + 63) / 64) c.units_rise-rise.result c.if-maps-ids.false c.units_rise-rise.ensures
