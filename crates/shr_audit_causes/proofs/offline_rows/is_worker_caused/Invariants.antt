-- SPDX-License-Identifier: GPL-2.0-only
use Rattle.shr_audit_causes.proofs.OfflinesCommon.{ℕ, ◌<◌, IsOfflineCausedAt}
use Rattle.shr_audit_causes.proofs.offline_rows.is_worker_caused.Given as goal

abbrev pub invariant-loop-number : goal.invariant-loop-number
invariant-loop-number l = (k : ℕ) → k < l.number → IsOfflineCausedAt l.script l.report l.worker k
