-- SPDX-License-Identifier: GPL-2.0-only
use Rattle.shr_audit_walks.proofs.LaterCommon.{◌≡◌, ◌<◌, ◌≤◌, ℕ, Some, slice_get, WalkRecord, AreFilled, HasFilled}
use Rattle.shr_audit_walks.proofs.bits.are_bits_seen_in.Given as goal

abbrev pub invariant-loop-n : goal.invariant-loop-n
invariant-loop-n l = record {
  filled : AreFilled l.case.parents.items l.report l.answers l.noted l.filled;
  low : (w : WalkRecord) → slice_get l.walks l.n ≡ Some w → l.noted ≤ w.by.command;
  before : (k : ℕ) (w : WalkRecord) → k < l.n → slice_get l.walks k ≡ Some w → HasFilled l.case.parents.items l.report l.answers w;
}
