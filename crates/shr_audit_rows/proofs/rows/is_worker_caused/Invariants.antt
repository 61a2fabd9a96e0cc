-- SPDX-License-Identifier: GPL-2.0-only
use Rattle.shr_audit_rows.proofs.Common.{ℕ, ◌<◌, IsCausedAt}
use Rattle.shr_audit_rows.proofs.rows.is_worker_caused.Given as goal

abbrev pub invariant-loop-number : goal.invariant-loop-number
invariant-loop-number l = (k : ℕ) → k < l.number → IsCausedAt l.script l.report l.worker k
