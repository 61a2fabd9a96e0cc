-- SPDX-License-Identifier: GPL-2.0-only
use Rattle.shr_audit_fresh.proofs.Common.{◌≡◌, ◌<◌, ℕ, Some, slice_get, WalkRecord, IsWalkStarted}
use Rattle.shr_audit_fresh.proofs.started.are_walks_started.Given as goal

abbrev pub invariant-loop-walk : goal.invariant-loop-walk
invariant-loop-walk l = (n : ℕ) (x : WalkRecord) → n < l.walk-index → slice_get l.walks n ≡ Some x → IsWalkStarted l.report l.begun l.worker x
