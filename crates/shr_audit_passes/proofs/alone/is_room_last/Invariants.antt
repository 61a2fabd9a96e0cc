-- SPDX-License-Identifier: GPL-2.0-only
use Rattle.shr_audit_passes.proofs.Common.{◌≡◌, ◌<◌, ℕ, Some, slice_get, Attempt, IsRoomAt}
use Rattle.shr_audit_passes.proofs.alone.is_room_last.Given as goal

abbrev pub invariant-loop-k : goal.invariant-loop-k
invariant-loop-k l = (n : ℕ) (a : Attempt) → n < l.k → slice_get l.attempts n ≡ Some a → IsRoomAt l.walk n a
