-- SPDX-License-Identifier: GPL-2.0-only
use Rattle.shr_audit_pools.proofs.Common.{◌≡◌, ◌<◌, ℕ, Some, slice_get, WorkerPart, IsPartRight}
use Rattle.shr_audit_pools.proofs.replies.are_replies_right.Given as goal

abbrev pub invariant-loop-worker : goal.invariant-loop-worker
invariant-loop-worker l = (n : ℕ) (part : WorkerPart) → n < l.worker → slice_get l.parts n ≡ Some part → IsPartRight l.script l.report n part
