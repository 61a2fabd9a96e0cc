-- SPDX-License-Identifier: GPL-2.0-only
use Rattle.shr_audit_tables.proofs.LookupsCommon.{◌≡◌, ◌<◌, ℕ, Some, slice_get, WorkerPart, Answered, IsFindAt}
use Rattle.shr_audit_tables.proofs.found.are_parts_right.Given as goal

abbrev pub invariant-loop-worker : goal.invariant-loop-worker
invariant-loop-worker l = (k : ℕ) (part : WorkerPart) → k < l.worker → slice_get l.parts k ≡ Some part → (n : ℕ) (a : Answered) → slice_get part.answers.items n ≡ Some a → IsFindAt l.script l.report k n a
