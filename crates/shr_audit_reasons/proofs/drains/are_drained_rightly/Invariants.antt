-- SPDX-License-Identifier: GPL-2.0-only
use Rattle.shr_audit_reasons.proofs.Common.{◌≡◌, ◌<◌, ℕ, Some, slice_get, Entry, IsDrainedRightly}
use Rattle.shr_audit_reasons.proofs.drains.are_drained_rightly.Given as goal

abbrev pub invariant-loop-entry : goal.invariant-loop-entry
invariant-loop-entry l = (n : ℕ) (x : Entry) → n < l.entry-index → slice_get l.entries n ≡ Some x → IsDrainedRightly l.report x
