-- SPDX-License-Identifier: GPL-2.0-only
use Rattle.shr_audit_tables.proofs.LookupsCommon.{◌≡◌, ◌<◌, ℕ, Some, slice_get, Answered, IsFindAt}
use Rattle.shr_audit_tables.proofs.found.are_finds_right.Given as goal

abbrev pub invariant-loop-number : goal.invariant-loop-number
invariant-loop-number l = (n : ℕ) (a : Answered) → n < l.number → slice_get l.answers n ≡ Some a → IsFindAt l.script l.report l.worker n a
