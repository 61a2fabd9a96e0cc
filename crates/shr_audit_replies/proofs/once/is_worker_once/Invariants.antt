-- SPDX-License-Identifier: GPL-2.0-only
use Rattle.shr_audit_replies.proofs.OnceCommon.{ℕ, ◌<◌, IsCitedOnceAt}
use Rattle.shr_audit_replies.proofs.once.is_worker_once.Given as goal

abbrev pub invariant-loop-number : goal.invariant-loop-number
invariant-loop-number l = (k : ℕ) → k < l.number → IsCitedOnceAt l.report l.worker k
