-- SPDX-License-Identifier: GPL-2.0-only
use Rattle.shr_audit_pools.proofs.Common.{◌≡◌, ◌<◌, ℕ, Some, slice_get, Answered, AreLows, IsAbove}
use Rattle.shr_audit_pools.proofs.rising.are_rising.Given as goal

abbrev pub invariant-loop-k : goal.invariant-loop-k
invariant-loop-k l = record {
  right : (n : ℕ) (a : Answered) → n < l.k → slice_get l.answers n ≡ Some a → IsAbove l.answers n a;
  lows : AreLows l.answers l.k l.lows;
}
