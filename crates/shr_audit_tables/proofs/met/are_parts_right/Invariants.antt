-- SPDX-License-Identifier: GPL-2.0-only
use Rattle.shr_audit_tables.proofs.LookupsCommon.{◌≡◌, ◌<◌, ℕ, Some, slice_get, WorkerPart, EachItem, EachAttempt, IsMetRight}
use Rattle.shr_audit_tables.proofs.met.are_parts_right.Given as goal

abbrev pub invariant-loop-worker : goal.invariant-loop-worker
invariant-loop-worker l = (n : ℕ) (part : WorkerPart) → n < l.worker → slice_get l.parts n ≡ Some part → EachItem (λ w. EachAttempt w (IsMetRight l.report)) part.walks.items
