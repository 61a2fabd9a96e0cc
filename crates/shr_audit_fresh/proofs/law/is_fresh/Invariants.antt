-- SPDX-License-Identifier: GPL-2.0-only
use Rattle.shr_audit_fresh.proofs.Common.{ℕ, ◌<◌, IsWorkerFresh}
use Rattle.shr_audit_fresh.proofs.law.is_fresh.Given as goal

abbrev pub invariant-loop-worker : goal.invariant-loop-worker
invariant-loop-worker l = (k : ℕ) → k < l.worker → IsWorkerFresh l.script l.report k
