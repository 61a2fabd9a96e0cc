-- SPDX-License-Identifier: GPL-2.0-only
use Rattle.shr_audit_pools.proofs.Common.{◌≡◌, ◌<◌, ℕ, Some, slice_get, WorkerPart, PlainWalk, IsPlainLawful}
use Rattle.shr_audit_pools.proofs.walks.are_walks_lawful.Given as goal

abbrev pub invariant-loop-worker : goal.invariant-loop-worker
invariant-loop-worker l = (k : ℕ) (part : WorkerPart) → k < l.worker → slice_get l.parts k ≡ Some part → (n : ℕ) (w : PlainWalk) → slice_get part.plain.items n ≡ Some w → IsPlainLawful l.script l.report k n w
