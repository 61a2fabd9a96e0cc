-- SPDX-License-Identifier: GPL-2.0-only
use Rattle.shr_audit_walks.proofs.RoundsCommon.{◌≡◌, ◌<◌, ℕ, Some, slice_get, WorkerPart, commands_of, IsPartMade}
use Rattle.shr_audit_walks.proofs.commands.are_walks_made.Given as goal

abbrev pub invariant-loop-worker : goal.invariant-loop-worker
invariant-loop-worker l = (k : ℕ) (part : WorkerPart) → k < l.worker → slice_get l.parts k ≡ Some part → IsPartMade l.dues k (commands_of l.script k) part
