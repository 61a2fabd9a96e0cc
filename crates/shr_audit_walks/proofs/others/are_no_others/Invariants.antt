-- SPDX-License-Identifier: GPL-2.0-only
use Rattle.shr_audit_walks.proofs.ScansCommon.{◌≡◌, ◌<◌, ℕ, Some, slice_get, PlaceEnd}
use Rattle.shr_audit_walks.proofs.OthersLaw.{IsListOfPasses}
use Rattle.shr_audit_walks.proofs.others.are_no_others.Given as goal

abbrev pub invariant-loop-k : goal.invariant-loop-k
invariant-loop-k l = (j : ℕ) (end : PlaceEnd) → j < l.k → slice_get l.ends j ≡ Some end → IsListOfPasses l.report l.ends j end
