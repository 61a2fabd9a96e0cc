-- SPDX-License-Identifier: GPL-2.0-only
use Rattle.shr_audit_lists.proofs.Common.{◌≡◌, ◌<◌, ℕ, List, Some, slice_get, PlaceEnd, IsFirst, AreBegun, IsBegunIfClosed}
use Rattle.shr_audit_lists.proofs.begun.are_lists_begun.Given as goal

abbrev pub invariant-loop-k : goal.invariant-loop-k
invariant-loop-k l = (parents : List ℕ) → AreBegun parents l.report.tree.items l.begun → (n : ℕ) (x : PlaceEnd) → n < l.k → slice_get l.report.places.items n ≡ Some x → IsFirst l.report.places.items n x.place → IsBegunIfClosed parents l.report x.place
