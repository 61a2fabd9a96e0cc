-- SPDX-License-Identifier: GPL-2.0-only
use Rattle.shr_audit_walks.proofs.LaterCommon.{◌≡◌, ◌<◌, ◌≤◌, ℕ, Some, slice_get, WalkRecord, AreHighestCited, IsWalkLater}
use Rattle.shr_audit_walks.proofs.later.are_later_in.Given as goal

abbrev pub invariant-loop-n : goal.invariant-loop-n
invariant-loop-n l = record {
  cited : AreHighestCited l.answers l.noted l.cited;
  low : (w : WalkRecord) → slice_get l.walks l.n ≡ Some w → l.noted ≤ w.by.command;
  before : (k : ℕ) (w : WalkRecord) → k < l.n → slice_get l.walks k ≡ Some w → IsWalkLater l.answers w;
}
