-- SPDX-License-Identifier: GPL-2.0-only
use Rattle.shr_audit_rows.proofs.Common.{ℕ, ◌<◌, IsCausedAt}
use Rattle.shr_audit_rows.proofs.rows.are_caused.Given as goal

abbrev pub invariant-loop-worker : goal.invariant-loop-worker
invariant-loop-worker l = (w : ℕ) → w < l.worker → (k : ℕ) → IsCausedAt l.script l.report w k
