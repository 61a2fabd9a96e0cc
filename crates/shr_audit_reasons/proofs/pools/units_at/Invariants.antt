-- SPDX-License-Identifier: GPL-2.0-only
use Rattle.std.proofs.Common.{◌≡◌, drop}
use Rattle.std.specs.Prelude.{find}
use Rattle.shr_base.specs.declared.ends.UnitsEnd.{UnitsEnd}
use Rattle.shr_model.specs.Places.{is_place}
use Rattle.shr_laws.specs.WellFormed.{units_place}
use Rattle.shr_audit_reasons.proofs.pools.units_at.Given as goal

abbrev pub invariant-loop-units : goal.invariant-loop-units
invariant-loop-units l = find (λ (u : UnitsEnd). is_place (units_place u) l.place) (drop l.units-index l.units-items) ≡ find (λ (u : UnitsEnd). is_place (units_place u) l.place) l.units-items
