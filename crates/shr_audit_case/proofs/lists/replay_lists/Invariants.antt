-- SPDX-License-Identifier: GPL-2.0-only
use Rattle.shr_audit_case.proofs.Common.{◌≡◌, ℕ, length, Some, slice_get, Replayed, IsReplayOfList, AreReplaysBefore}
use Rattle.shr_audit_case.proofs.lists.replay_lists.Given as goal

abbrev pub invariant-loop-k : goal.invariant-loop-k
invariant-loop-k l = (length l.told.items ≡ l.k)
    × (((n : ℕ) (r : Replayed) → slice_get l.told.items n ≡ Some r → IsReplayOfList l.parents l.ends n r) × AreReplaysBefore l.parents l.ends l.k l.node.items)
