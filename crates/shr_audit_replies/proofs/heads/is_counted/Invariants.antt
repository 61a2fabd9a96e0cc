-- SPDX-License-Identifier: GPL-2.0-only
use Rattle.shr_audit_replies.proofs.Common.{◌<◌, ℕ, HasAnswers}
use Rattle.shr_audit_replies.proofs.heads.is_counted.Given as goal

abbrev pub invariant-loop-worker : goal.invariant-loop-worker
invariant-loop-worker l = (n : ℕ) → n < l.worker → HasAnswers l.script l.report n
