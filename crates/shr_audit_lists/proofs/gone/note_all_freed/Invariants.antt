-- SPDX-License-Identifier: GPL-2.0-only
use Rattle.shr_audit_lists.proofs.BagCommon.{◌≡◌, ◌++◌, take, flat_map, PlaceEnd, freed_at, serials_of, journals_of}
use Rattle.shr_audit_lists.proofs.gone.note_all_freed.Given as goal

abbrev pub invariant-loop-end : goal.invariant-loop-end
invariant-loop-end l = l.serials.items ≡ l.fn.serials.items ++ flat_map (λ (end : PlaceEnd). serials_of (freed_at l.case.parents.items (journals_of l.report) end.place)) (take l.end-index l.end-items)
