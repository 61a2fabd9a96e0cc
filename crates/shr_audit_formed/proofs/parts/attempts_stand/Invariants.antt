-- SPDX-License-Identifier: GPL-2.0-only
use Rattle.shr_audit_formed.proofs.Common.{◌≡◌, ◌+◌, ◌<◌, ◌≤◌, ℕ, Some, slice_get, Attempt, unit_of}
use Rattle.shr_audit_formed.proofs.parts.attempts_stand.Given as goal

abbrev pub invariant-loop-i : goal.invariant-loop-i
invariant-loop-i l = (n : ℕ) (x y : Attempt) → n + 1 < l.i → slice_get l.attempts n ≡ Some x → slice_get l.attempts (n + 1) ≡ Some y → unit_of x.id ≤ unit_of y.id
