-- SPDX-License-Identifier: GPL-2.0-only
use Rattle.shr_audit_causes.proofs.UnregistersCommon.{ℕ, ◌<◌, IsUnregisterCausedAt}
use Rattle.shr_audit_causes.proofs.unregister_rows.are_caused.Given as goal

abbrev pub invariant-loop-worker : goal.invariant-loop-worker
invariant-loop-worker l = (w : ℕ) → w < l.worker → (k : ℕ) → IsUnregisterCausedAt l.script l.report w k
