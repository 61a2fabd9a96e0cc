-- SPDX-License-Identifier: GPL-2.0-only
use Rattle.shr_audit_replies.proofs.Common.{◌≡◌, ◌<◌, ℕ, Some, slice_get, PlaceEnd, Entry, IsFirst, IsCited}
use Rattle.shr_audit_replies.proofs.cited.are_lists_cited.Given as goal

abbrev pub invariant-loop-k : goal.invariant-loop-k
invariant-loop-k l = (j : ℕ) (end : PlaceEnd) → j < l.k → slice_get l.ends j ≡ Some end → IsFirst l.ends j end.place → (n : ℕ) (e : Entry) → slice_get end.entries.items n ≡ Some e → IsCited l.report end.place n e
