-- SPDX-License-Identifier: GPL-2.0-only
use Rattle.shr_audit_pools.proofs.DueCommon.{◌≡◌, ◌<◌, ℕ, Some, slice_get, PlainWalk, IsDue}
use Rattle.shr_audit_pools.proofs.due.are_all_due.Given as goal

abbrev pub invariant-loop-walk : goal.invariant-loop-walk
invariant-loop-walk l = (n : ℕ) (w : PlainWalk) → n < l.walk-index → slice_get l.walks n ≡ Some w → IsDue l.script l.report w
