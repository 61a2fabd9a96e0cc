-- SPDX-License-Identifier: GPL-2.0-only
use Rattle.shr_audit_lists.proofs.Common.{◌≡◌, ◌<◌, ℕ, Some, slice_get, Begin}
use Rattle.shr_audit_lists.proofs.begun.is_begin.Given as goal

abbrev pub invariant-loop-entry : goal.invariant-loop-entry
invariant-loop-entry l = (n : ℕ) → n < l.entry-index → slice_get l.tree n ≡ Some (Begin l.group) → ⊥
