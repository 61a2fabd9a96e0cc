-- SPDX-License-Identifier: GPL-2.0-only
use Rattle.shr_audit_pools.proofs.Common.{◌≡◌, ◌<◌, ℕ, Some, slice_get, PlainTry, IsTryHigh}
use Rattle.shr_audit_pools.proofs.versions.is_walk_high.Given as goal

abbrev pub invariant-loop-pool : goal.invariant-loop-pool
invariant-loop-pool l = (n : ℕ) (x : PlainTry) → n < l.pool → slice_get l.tries n ≡ Some x → IsTryHigh l.script l.lows l.walk n x
