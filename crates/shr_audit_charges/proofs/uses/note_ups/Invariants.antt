-- SPDX-License-Identifier: GPL-2.0-only
use Rattle.shr_audit_charges.proofs.Common.{◌≡◌, ◌++◌, take, flat_map, up_keys}
use Rattle.shr_audit_charges.proofs.uses.note_ups.Given as goal

abbrev pub invariant-loop-step : goal.invariant-loop-step
invariant-loop-step l = l.keys.items ≡ l.fn.keys.items ++ flat_map (up_keys l.own) (take l.step-index l.uses)
