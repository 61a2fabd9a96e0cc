-- SPDX-License-Identifier: GPL-2.0-only
use Rattle.shr_audit_walks.proofs.LaterCommon.{flat_map, take, WorkerPart, clearings_of, Clears}
use Rattle.shr_audit_walks.proofs.cleared.cleared_in.Given as goal

abbrev pub invariant-loop-worker : goal.invariant-loop-worker
invariant-loop-worker l = Clears l.initial.cleared l.cleared (flat_map (λ (part : WorkerPart). flat_map clearings_of part.walks.items) (take l.worker l.parts))
