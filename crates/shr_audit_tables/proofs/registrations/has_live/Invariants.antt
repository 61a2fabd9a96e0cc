-- SPDX-License-Identifier: GPL-2.0-only
use Rattle.shr_audit_tables.proofs.Common.{◌≡◌, ◌<◌, ℕ, Some, slice_get, IdState, IsStateLiveAs}
use Rattle.shr_audit_tables.proofs.registrations.has_live.Given as goal

abbrev pub invariant-loop-id : goal.invariant-loop-id
invariant-loop-id l = (n : ℕ) (x : IdState) → n < l.id → slice_get l.states n ≡ Some x → IsStateLiveAs l.decl x → ⊥
