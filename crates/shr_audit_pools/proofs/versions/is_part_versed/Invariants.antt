-- SPDX-License-Identifier: GPL-2.0-only
use Rattle.shr_audit_pools.proofs.Common.{◌≡◌, ◌<◌, ◌≤◌, ℕ, Some, slice_get, take, PlainWalk, AreLowsOf, IsVersed}
use Rattle.shr_audit_pools.proofs.versions.is_part_versed.Given as goal

abbrev pub invariant-loop-n : goal.invariant-loop-n
invariant-loop-n l = record {
  right : (n : ℕ) (w : PlainWalk) → n < l.n → slice_get l.walks n ≡ Some w → IsVersed l.script l.answers (take n l.walks) w;
  next : (w : PlainWalk) → slice_get l.walks l.n ≡ Some w → l.known ≤ w.by.command;
  lows : AreLowsOf l.script l.answers l.known (take l.n l.walks) l.lows;
}
