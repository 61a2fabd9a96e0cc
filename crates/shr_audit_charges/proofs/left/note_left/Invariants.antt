-- SPDX-License-Identifier: GPL-2.0-only
use Rattle.shr_audit_charges.proofs.Common.{◌≡◌, ◌++◌, take, flat_map, PlaceEnd, left_keys}
use Rattle.shr_audit_charges.proofs.left.note_left.Given as goal

abbrev pub invariant-loop-end : goal.invariant-loop-end
invariant-loop-end l = l.keys.items ≡ l.fn.keys.items ++ flat_map (λ (end : PlaceEnd). left_keys l.case.parents.items l.report end.place) (take l.end-index l.ends)
