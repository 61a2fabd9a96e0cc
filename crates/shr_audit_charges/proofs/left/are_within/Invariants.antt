-- SPDX-License-Identifier: GPL-2.0-only
use Rattle.shr_audit_charges.proofs.Common.{◌≡◌, ◌<◌, ℕ, Some, slice_get, Usage, IsWithinLimit, limit_in}
use Rattle.shr_audit_charges.proofs.left.are_within.Given as goal

abbrev pub invariant-loop-group : goal.invariant-loop-group
invariant-loop-group l = (group : ℕ) (x : Usage) → group < l.group → slice_get l.usages group ≡ Some x → IsWithinLimit (limit_in l.limits group) x
