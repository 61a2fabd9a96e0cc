-- SPDX-License-Identifier: GPL-2.0-only
use Rattle.shr_audit_formed.proofs.Common.{◌≡◌, ◌++◌, wheres, unit_places}
use Rattle.shr_audit_formed.proofs.maps.strip_units.Given as goal

abbrev pub invariant-loop-unit : goal.invariant-loop-unit
invariant-loop-unit l = wheres l.maps ≡ unit_places l.node l.group l.unit ++ wheres l.rest
