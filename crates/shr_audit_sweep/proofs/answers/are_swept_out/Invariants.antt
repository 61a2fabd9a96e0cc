-- SPDX-License-Identifier: GPL-2.0-only
use Rattle.shr_audit_sweep.proofs.Common.{◌<◌, ℕ, IsSomeAnd, sweep_serial, reply_at, IsSweptOut}
use Rattle.shr_audit_sweep.proofs.answers.are_swept_out.Given as goal

abbrev pub invariant-loop-worker : goal.invariant-loop-worker
invariant-loop-worker l = (n : ℕ) → n < l.worker → IsSomeAnd (reply_at l.report (sweep_serial l.script n)) IsSweptOut
