-- SPDX-License-Identifier: GPL-2.0-only
use Rattle.shr_audit_passes.proofs.Common.{◌≡◌, ◌<◌, ℕ, Some, slice_get, WalkRecord, IsShaped}
use Rattle.shr_audit_passes.proofs.shape.are_shaped.Given as goal

abbrev pub invariant-loop-walk : goal.invariant-loop-walk
invariant-loop-walk l = (n : ℕ) (w : WalkRecord) → n < l.walk-index → slice_get l.walks n ≡ Some w → IsShaped l.script w
