-- SPDX-License-Identifier: GPL-2.0-only
use Rattle.shr_audit_pools.proofs.Common.{◌≡◌, ◌<◌, ℕ, Some, slice_get, PoolDecl, PlainTry, pool_place, IsTryRight}
use Rattle.shr_audit_pools.proofs.walks.are_tries_right.Given as goal

abbrev pub invariant-loop-pool : goal.invariant-loop-pool
invariant-loop-pool l = (k : ℕ) (d : PoolDecl) (x : PlainTry) → k < l.pool → slice_get l.decls k ≡ Some d → slice_get l.tries k ≡ Some x → IsTryRight l.report l.worker l.n l.walk k (pool_place l.script k l.walk.node) d x
