-- SPDX-License-Identifier: GPL-2.0-only
use Rattle.shr_audit_replies.proofs.Common.{◌≡◌, ◌+◌, ◌<◌, ℕ, Some, slice_get, PlaceEnd, IsFirst, AreCommandsRising, AreOfEarlierJournals}
use Rattle.shr_audit_replies.proofs.rising.are_lists_rising.Given as goal

abbrev pub invariant-loop-k : goal.invariant-loop-k
invariant-loop-k l = record {
  below : AreOfEarlierJournals (l.k + 1) l.seen.items;
  rising : (j : ℕ) (end : PlaceEnd) → j < l.k → slice_get l.ends j ≡ Some end → IsFirst l.ends j end.place → AreCommandsRising end.entries.items;
}
