-- SPDX-License-Identifier: GPL-2.0-only
use Rattle.shr_audit_reasons.proofs.Common.{◌≡◌, ◌<◌, ℕ, Some, slice_get, PlaceEnd, IsFirst, EachItem, IsDrainedRightly}
use Rattle.shr_audit_reasons.proofs.drains.are_lists_drained_rightly.Given as goal

abbrev pub invariant-loop-k : goal.invariant-loop-k
invariant-loop-k l = (j : ℕ) (end : PlaceEnd) → j < l.k → slice_get l.ends j ≡ Some end → IsFirst l.ends j end.place → EachItem (λ e. IsDrainedRightly l.report e) end.entries.items
