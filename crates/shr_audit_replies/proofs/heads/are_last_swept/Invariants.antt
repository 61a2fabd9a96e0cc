-- SPDX-License-Identifier: GPL-2.0-only
use Rattle.shr_audit_replies.proofs.Common.{◌<◌, ℕ, IsLastSwept}
use Rattle.shr_audit_replies.proofs.heads.are_last_swept.Given as goal

abbrev pub invariant-loop-worker : goal.invariant-loop-worker
invariant-loop-worker l = (n : ℕ) → n < l.worker → IsLastSwept l.script l.report n
