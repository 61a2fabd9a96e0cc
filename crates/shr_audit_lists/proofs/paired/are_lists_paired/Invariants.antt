-- SPDX-License-Identifier: GPL-2.0-only
use Rattle.shr_audit_lists.proofs.Common.{◌≡◌, ◌<◌, ℕ, Some, slice_get, PlaceEnd, IsFirst, IsPairedAround}
use Rattle.shr_audit_lists.proofs.paired.are_lists_paired.Given as goal

abbrev pub invariant-loop-k : goal.invariant-loop-k
invariant-loop-k l = (n : ℕ) (x : PlaceEnd) → n < l.k → slice_get l.report.places.items n ≡ Some x → IsFirst l.report.places.items n x.place → IsPairedAround l.parents l.report x.place
