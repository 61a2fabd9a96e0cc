-- SPDX-License-Identifier: GPL-2.0-only
use Rattle.shr_audit_pools.proofs.Common.{◌≡◌, ◌<◌, ℕ, Some, slice_get, WorkerPart, AreCitesRising}
use Rattle.shr_audit_pools.proofs.rising.are_all_rising.Given as goal

abbrev pub invariant-loop-worker : goal.invariant-loop-worker
invariant-loop-worker l = (n : ℕ) (part : WorkerPart) → n < l.worker → slice_get l.parts n ≡ Some part → AreCitesRising part.answers.items
