-- SPDX-License-Identifier: GPL-2.0-only
use Rattle.shr_audit_reasons.proofs.Common.{◌≡◌, ◌<◌, ℕ, Some, slice_get, WalkRecord, CitesBegin}
use Rattle.shr_audit_reasons.proofs.walks.all_begin.Given as goal

abbrev pub invariant-loop-walk : goal.invariant-loop-walk
invariant-loop-walk l = (n : ℕ) (x : WalkRecord) → n < l.walk-index → slice_get l.walks n ≡ Some x → CitesBegin l.report x
