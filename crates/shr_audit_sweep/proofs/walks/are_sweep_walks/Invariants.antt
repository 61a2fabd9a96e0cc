-- SPDX-License-Identifier: GPL-2.0-only
use Rattle.shr_audit_sweep.proofs.Common.{◌≡◌, ◌<◌, ℕ, Some, slice_get, WalkRecord, IsSweepWalk}
use Rattle.shr_audit_sweep.proofs.walks.are_sweep_walks.Given as goal

abbrev pub invariant-loop-walk : goal.invariant-loop-walk
invariant-loop-walk l = (n : ℕ) (w : WalkRecord) → n < l.walk-index → slice_get l.walks n ≡ Some w → IsSweepWalk l.script l.sweep w
