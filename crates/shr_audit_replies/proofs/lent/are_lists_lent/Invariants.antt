-- SPDX-License-Identifier: GPL-2.0-only
use Rattle.shr_audit_replies.proofs.LendingCommon.{◌≡◌, ◌<◌, ℕ, Some, slice_get, PlaceEnd, IsFirst, AreValuesLentAt}
use Rattle.shr_audit_replies.proofs.lent.are_lists_lent.Given as goal

abbrev pub invariant-loop-k : goal.invariant-loop-k
invariant-loop-k l = (j : ℕ) (end : PlaceEnd) → j < l.k → slice_get l.ends j ≡ Some end → IsFirst l.ends j end.place → AreValuesLentAt l.case.parents.items l.report end.place
