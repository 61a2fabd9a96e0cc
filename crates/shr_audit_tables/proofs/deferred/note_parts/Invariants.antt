-- SPDX-License-Identifier: GPL-2.0-only
use Rattle.shr_audit_tables.proofs.Common.{take, sum_by, WorkerPart, GainsAtEach, given_by_worker, taken_by}
use Rattle.shr_audit_tables.proofs.deferred.note_parts.Given as goal

abbrev pub invariant-loop-part : goal.invariant-loop-part
invariant-loop-part l = GainsAtEach (λ p. sum_by (λ (part : WorkerPart). given_by_worker l.parents part p) (take l.part-index l.parts)) (λ p. sum_by (λ (part : WorkerPart). taken_by part p) (take l.part-index l.parts)) l.fn.moves.items l.moves.items
