-- SPDX-License-Identifier: GPL-2.0-only
use Rattle.shr_audit_formed.proofs.Common.{◌≡◌, ◌+◌, ◌<◌, ◌≤◌, ℕ, Some, slice_get, PlainWalk}
use Rattle.shr_audit_formed.proofs.parts.plains_stand.Given as goal

abbrev pub invariant-loop-i : goal.invariant-loop-i
invariant-loop-i l = (n : ℕ) (x y : PlainWalk) → n + 1 < l.i → slice_get l.plains n ≡ Some x → slice_get l.plains (n + 1) ≡ Some y → x.by.command ≤ y.by.command
