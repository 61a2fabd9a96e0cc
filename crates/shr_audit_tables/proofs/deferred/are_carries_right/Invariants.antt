-- SPDX-License-Identifier: GPL-2.0-only
use Rattle.shr_audit_tables.proofs.Common.{◌≡◌, ◌<◌, ℕ, Some, slice_get, Carry, IsCarryRight}
use Rattle.shr_audit_tables.proofs.deferred.are_carries_right.Given as goal

abbrev pub invariant-loop-carry : goal.invariant-loop-carry
invariant-loop-carry l = (n : ℕ) (x : Carry) → n < l.carry-index → slice_get l.carries n ≡ Some x → IsCarryRight l.script l.report x
