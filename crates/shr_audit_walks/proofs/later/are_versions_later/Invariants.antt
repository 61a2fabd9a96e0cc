-- SPDX-License-Identifier: GPL-2.0-only
use Rattle.shr_audit_walks.proofs.LaterCommon.{◌≡◌, ◌<◌, ℕ, Some, slice_get, WorkerPart, IsPartLater}
use Rattle.shr_audit_walks.proofs.later.are_versions_later.Given as goal

abbrev pub invariant-loop-worker : goal.invariant-loop-worker
invariant-loop-worker l = (k : ℕ) (part : WorkerPart) → k < l.worker → slice_get l.parts k ≡ Some part → IsPartLater part
