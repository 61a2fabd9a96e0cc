-- SPDX-License-Identifier: GPL-2.0-only
use Rattle.shr_audit_tables.proofs.Common.{◌≡◌, ◌%◌, ◌<◌, ◌≤◌, ℕ, Some, slice_get, slice_index, IdState}
use Rattle.shr_audit_tables.proofs.registrations.are_last_reached.Given as goal

abbrev pub invariant-loop-id : goal.invariant-loop-id
invariant-loop-id l = (id : ℕ) (x : IdState) → id < l.id → slice_get l.states id ≡ Some x → x.phase % 3 ≡ 1 → x.last ≤ slice_index l.lookups id
