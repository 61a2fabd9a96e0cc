-- SPDX-License-Identifier: GPL-2.0-only
use Rattle.shr_audit_lists.proofs.BitsCommon.{◌≡◌, ◌<◌, ℕ, Some, slice_get, PlaceEnd, IsSetIfLive}
use Rattle.shr_audit_lists.proofs.bits.are_lists_set.Given as goal

abbrev pub invariant-loop-end : goal.invariant-loop-end
invariant-loop-end l = (k : ℕ) (end : PlaceEnd) → k < l.end-index → slice_get l.end-items k ≡ Some end → IsSetIfLive l.case.parents.items l.report end.place
