-- SPDX-License-Identifier: GPL-2.0-only
use Rattle.std.proofs.Common.{◌≡◌, ◌<◌, ◌^◌, ℕ, Some, slice_get}
use Rattle.shr_audit_tables.proofs.deferred.parents_fit.Given as goal

abbrev pub invariant-loop-parent : goal.invariant-loop-parent
invariant-loop-parent l = (n x : ℕ) → n < l.parent-index → slice_get l.parents n ≡ Some x → x < 2 ^ 16
