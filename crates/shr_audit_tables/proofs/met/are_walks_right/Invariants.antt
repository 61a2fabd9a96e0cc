-- SPDX-License-Identifier: GPL-2.0-only
use Rattle.shr_audit_tables.proofs.LookupsCommon.{◌≡◌, ◌<◌, ℕ, Some, slice_get, WalkRecord, EachAttempt, IsMetRight}
use Rattle.shr_audit_tables.proofs.met.are_walks_right.Given as goal

abbrev pub invariant-loop-walk : goal.invariant-loop-walk
invariant-loop-walk l = (n : ℕ) (x : WalkRecord) → n < l.walk-index → slice_get l.walks n ≡ Some x → EachAttempt x (IsMetRight l.report)
