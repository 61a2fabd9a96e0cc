-- SPDX-License-Identifier: GPL-2.0-only
use Rattle.shr_audit_causes.proofs.UnregistersCommon.{ℕ, ◌<◌, IsUnregisterCausedAt}
use Rattle.shr_audit_causes.proofs.unregister_rows.is_worker_caused.Given as goal

abbrev pub invariant-loop-number : goal.invariant-loop-number
invariant-loop-number l = (k : ℕ) → k < l.number → IsUnregisterCausedAt l.script l.report l.worker k
