-- SPDX-License-Identifier: GPL-2.0-only
use Rattle.shr_audit_lists.proofs.Common.{◌≡◌, ◌<◌, ℕ, Some, slice_get, PlaceEnd, IsItemsLeft}
use Rattle.shr_audit_lists.proofs.left.are_items_left.Given as goal

abbrev pub invariant-loop-k : goal.invariant-loop-k
invariant-loop-k l = (n : ℕ) (x : PlaceEnd) → n < l.k → slice_get l.report.places.items n ≡ Some x → IsItemsLeft l.case.parents.items l.report x
