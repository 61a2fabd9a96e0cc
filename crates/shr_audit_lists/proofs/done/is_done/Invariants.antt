-- SPDX-License-Identifier: GPL-2.0-only
use Rattle.shr_audit_lists.proofs.Common.{◌≡◌, ◌<◌, ℕ, Some, slice_get, Done}
use Rattle.shr_audit_lists.proofs.done.is_done.Given as goal

abbrev pub invariant-loop-entry : goal.invariant-loop-entry
invariant-loop-entry l = (n : ℕ) → n < l.entry-index → slice_get l.tree n ≡ Some (Done l.group) → ⊥
