-- SPDX-License-Identifier: GPL-2.0-only
use Rattle.shr_audit_formed.proofs.Common.{◌≡◌, ◌+◌, ◌<◌, ◌≤◌, ℕ, Some, slice_get, Isolation}
use Rattle.shr_audit_formed.proofs.parts.isolations_stand.Given as goal

abbrev pub invariant-loop-i : goal.invariant-loop-i
invariant-loop-i l = (n : ℕ) (x y : Isolation) → n + 1 < l.i → slice_get l.isolations n ≡ Some x → slice_get l.isolations (n + 1) ≡ Some y → x.by.command ≤ y.by.command
