-- SPDX-License-Identifier: GPL-2.0-only
use Rattle.shr_audit_passes.proofs.Common.{◌≡◌, ◌+◌, sum_by, take, attempt_freed}
use Rattle.shr_audit_passes.proofs.alone.frees.Given as goal

abbrev pub invariant-loop-attempt : goal.invariant-loop-attempt
invariant-loop-attempt l = l.left + sum_by attempt_freed (take l.attempt-index l.attempts) ≡ l.told
