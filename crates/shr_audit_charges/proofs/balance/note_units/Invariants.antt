-- SPDX-License-Identifier: GPL-2.0-only
use Rattle.shr_audit_charges.proofs.Common.{◌≡◌, ◌++◌, map, take, unit}
use Rattle.shr_audit_charges.proofs.balance.note_units.Given as goal

abbrev pub invariant-loop-key : goal.invariant-loop-key
invariant-loop-key l = l.moves.items ≡ l.fn.moves.items ++ map (unit l.up) (take l.key-index l.keys)
