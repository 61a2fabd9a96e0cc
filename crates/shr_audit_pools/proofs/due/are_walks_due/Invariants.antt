-- SPDX-License-Identifier: GPL-2.0-only
use Rattle.shr_audit_pools.proofs.DueCommon.{◌≡◌, ◌<◌, ℕ, Some, slice_get, WorkerPart, IsPartDue}
use Rattle.shr_audit_pools.proofs.due.are_walks_due.Given as goal

abbrev pub invariant-loop-worker : goal.invariant-loop-worker
invariant-loop-worker l = (n : ℕ) (part : WorkerPart) → n < l.worker → slice_get l.parts n ≡ Some part → IsPartDue l.script n part
