-- SPDX-License-Identifier: GPL-2.0-only
use Rattle.shr_audit_causes.proofs.UnregistersCommon.{◌≡◌, ◌<◌, ℕ, Some, slice_get, Entry, IsDrainPlaced}
use Rattle.shr_audit_causes.proofs.placed.are_placed.Given as goal

abbrev pub invariant-loop-entry : goal.invariant-loop-entry
invariant-loop-entry l = (n : ℕ) (x : Entry) → n < l.entry-index → slice_get l.entries n ≡ Some x → IsDrainPlaced l.script l.report l.place x
