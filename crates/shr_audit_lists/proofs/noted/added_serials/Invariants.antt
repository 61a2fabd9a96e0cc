-- SPDX-License-Identifier: GPL-2.0-only
use Rattle.shr_audit_lists.proofs.BagCommon.{◌≡◌, [], ◌++◌, take, flat_map, PlaceEnd, added_by_all, journals_of}
use Rattle.shr_audit_lists.proofs.noted.added_serials.Given as goal

abbrev pub invariant-loop-end : goal.invariant-loop-end
invariant-loop-end l = l.serials.items ≡ [] ++ flat_map (λ (end : PlaceEnd). added_by_all (journals_of l.report end.place)) (take l.end-index l.end-items)
