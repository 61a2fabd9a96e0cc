-- SPDX-License-Identifier: GPL-2.0-only
use Rattle.shr_audit_formed.proofs.Common.{◌≡◌, ◌<◌, ℕ, Some, slice_get, PlaceAmount, IsAmountWell}
use Rattle.shr_audit_formed.proofs.tables.amounts_are_well.Given as goal

abbrev pub invariant-loop-d : goal.invariant-loop-d
invariant-loop-d l = (n : ℕ) (x : PlaceAmount) → n < l.d-index → slice_get l.amounts n ≡ Some x → IsAmountWell x
