-- SPDX-License-Identifier: GPL-2.0-only
use Rattle.shr_audit_pools.proofs.Common.{sum_by, take, GainsAtEach, moved_at, pass_next, nr_of}
use Rattle.shr_audit_pools.proofs.deferred.note_part.Given as goal

abbrev pub invariant-loop-walk : goal.invariant-loop-walk
invariant-loop-walk l = GainsAtEach (λ p. sum_by (moved_at pass_next l.script p) (take l.walk-index l.walk-items)) (λ p. sum_by (moved_at nr_of l.script p) (take l.walk-index l.walk-items)) l.fn.moves.items l.moves.items
