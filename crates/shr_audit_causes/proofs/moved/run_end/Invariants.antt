-- SPDX-License-Identifier: GPL-2.0-only
use Rattle.shr_audit_causes.proofs.OfflinesCommon.{◌≡◌, ◌≤◌, ◌<◌, ℕ, Some, slice_get, PlaceEnd}
use Rattle.shr_audit_causes.proofs.moved.run_end.Given as goal

abbrev pub invariant-loop-k : goal.invariant-loop-k
invariant-loop-k l = (j : ℕ) (end : PlaceEnd) → l.from ≤ j → j < l.k → slice_get l.ends j ≡ Some end → end.place ≡ l.place
