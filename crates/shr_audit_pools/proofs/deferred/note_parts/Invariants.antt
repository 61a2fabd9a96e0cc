-- SPDX-License-Identifier: GPL-2.0-only
use Rattle.shr_audit_pools.proofs.Common.{sum_by, take, GainsAtEach, moved_by_worker, pass_next, nr_of}
use Rattle.shr_audit_pools.proofs.deferred.note_parts.Given as goal

abbrev pub invariant-loop-part : goal.invariant-loop-part
invariant-loop-part l = GainsAtEach (λ p. sum_by (moved_by_worker pass_next l.script p) (take l.part-index l.parts)) (λ p. sum_by (moved_by_worker nr_of l.script p) (take l.part-index l.parts)) l.fn.moves.items l.moves.items
