-- SPDX-License-Identifier: GPL-2.0-only
use Rattle.shr_audit_formed.proofs.Common.{◌≡◌, ◌<◌, ℕ, Some, length, slice_get, UnitsEnd}
use Rattle.shr_audit_formed.proofs.tables.units_are_entered.Given as goal

abbrev pub invariant-loop-pool : goal.invariant-loop-pool
invariant-loop-pool l = (n : ℕ) (x : UnitsEnd) → n < l.pool-index → slice_get l.pools n ≡ Some x → 0 < length x.entries.items
