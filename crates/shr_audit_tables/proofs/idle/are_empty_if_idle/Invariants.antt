-- SPDX-License-Identifier: GPL-2.0-only
use Rattle.shr_audit_tables.proofs.Common.{◌≡◌, ◌<◌, ℕ, Some, slice_get, PlaceEnd, IsEmptyIfIdle}
use Rattle.shr_audit_tables.proofs.idle.are_empty_if_idle.Given as goal

abbrev pub invariant-loop-end : goal.invariant-loop-end
invariant-loop-end l = (n : ℕ) (x : PlaceEnd) → n < l.end-index → slice_get l.ends n ≡ Some x → IsEmptyIfIdle l.case.parents.items l.report l.states x.place
