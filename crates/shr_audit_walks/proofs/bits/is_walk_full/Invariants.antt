-- SPDX-License-Identifier: GPL-2.0-only
use Rattle.shr_audit_walks.proofs.LaterCommon.{◌≡◌, ◌<◌, ℕ, Some, slice_get, MapSeen, IsMapFull}
use Rattle.shr_audit_walks.proofs.bits.is_walk_full.Given as goal

abbrev pub invariant-loop-map : goal.invariant-loop-map
invariant-loop-map l = (k : ℕ) (m : MapSeen) → k < l.map-index → slice_get l.map-items k ≡ Some m → IsMapFull l.filled l.walk m
