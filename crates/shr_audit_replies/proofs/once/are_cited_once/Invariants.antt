-- SPDX-License-Identifier: GPL-2.0-only
use Rattle.shr_audit_replies.proofs.OnceCommon.{ℕ, ◌<◌, IsCitedOnceAt}
use Rattle.shr_audit_replies.proofs.once.are_cited_once.Given as goal

abbrev pub invariant-loop-worker : goal.invariant-loop-worker
invariant-loop-worker l = (w : ℕ) → w < l.worker → (k : ℕ) → IsCitedOnceAt l.report w k
