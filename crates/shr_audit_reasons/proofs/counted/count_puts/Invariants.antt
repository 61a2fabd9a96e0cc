-- SPDX-License-Identifier: GPL-2.0-only
use Rattle.shr_audit_reasons.proofs.SpentCommon.{length, take, filter, sum_by, WorkerScript, is_put, IsCapped}
use Rattle.shr_audit_reasons.proofs.counted.count_puts.Given as goal

abbrev pub invariant-loop-worker : goal.invariant-loop-worker
invariant-loop-worker l = IsCapped l.puts (sum_by (λ (w : WorkerScript). length (filter is_put w.commands.items)) (take l.worker-index l.worker-items))
