-- SPDX-License-Identifier: GPL-2.0-only
use Rattle.shr_audit_sweep.proofs.Common.{◌<◌, ℕ, IsSomeAnd, IsSwept, sweep_serial, sweep_walks, answer_at}
use Rattle.shr_audit_sweep.proofs.answers.are_answered.Given as goal

abbrev pub invariant-loop-worker : goal.invariant-loop-worker
invariant-loop-worker l = (n : ℕ) → n < l.worker → IsSomeAnd (answer_at l.report (sweep_serial l.script n)) (IsSwept l.script l.sweep (sweep_walks l.script l.report n))
