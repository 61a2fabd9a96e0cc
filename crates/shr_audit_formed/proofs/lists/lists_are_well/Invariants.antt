-- SPDX-License-Identifier: GPL-2.0-only
use Rattle.shr_audit_formed.proofs.Common.{◌≡◌, ◌<◌, ℕ, Some, slice_get, PlaceEnd, IsListFormed}
use Rattle.shr_audit_formed.proofs.lists.lists_are_well.Given as goal

abbrev pub invariant-loop-end : goal.invariant-loop-end
invariant-loop-end l = (n : ℕ) (x : PlaceEnd) → n < l.end-index → slice_get l.ends n ≡ Some x → IsListFormed x
