-- SPDX-License-Identifier: GPL-2.0-only
use Rattle.std.proofs.Common.{◌≡◌, ◌<◌, ◌^◌, ℕ, Some, slice_get}
use Rattle.shr_audit_formed.proofs.tables.lookups_fit.Given as goal

abbrev pub invariant-loop-n : goal.invariant-loop-n
invariant-loop-n l = (n : ℕ) (x : ℕ) → n < l.n-index → slice_get l.lookups n ≡ Some x → x < 2 ^ 32
