-- SPDX-License-Identifier: GPL-2.0-only
use Rattle.shr_audit_walks.proofs.VersionsCommon.{◌≡◌, ◌<◌, ℕ, Some, slice_get, WorkerPart, IsPartRising}
use Rattle.shr_audit_walks.proofs.versions.versions_never_fall.Given as goal

abbrev pub invariant-loop-worker : goal.invariant-loop-worker
invariant-loop-worker l = (k : ℕ) (part : WorkerPart) → k < l.worker → slice_get l.parts k ≡ Some part → IsPartRising part
