-- SPDX-License-Identifier: GPL-2.0-only
use Rattle.shr_audit_causes.proofs.UnregistersCommon.{◌≡◌, ◌<◌, ℕ, Some, slice_get, PlaceEnd, IsFirst, EachItem, IsDrainPlaced}
use Rattle.shr_audit_causes.proofs.placed.are_lists_placed.Given as goal

abbrev pub invariant-loop-k : goal.invariant-loop-k
invariant-loop-k l = (j : ℕ) (end : PlaceEnd) → j < l.k → slice_get l.ends j ≡ Some end → IsFirst l.ends j end.place → EachItem (λ e. IsDrainPlaced l.script l.report end.place e) end.entries.items
