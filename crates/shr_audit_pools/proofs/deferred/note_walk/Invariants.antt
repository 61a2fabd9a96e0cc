-- SPDX-License-Identifier: GPL-2.0-only
use Rattle.shr_audit_pools.proofs.Common.{GainsAtEach, pass_next, nr_of}
use Rattle.shr_audit_pools.proofs.Moving.{tried_to}
use Rattle.shr_audit_pools.proofs.deferred.note_walk.Given as goal

abbrev pub invariant-loop-pool : goal.invariant-loop-pool
invariant-loop-pool l = GainsAtEach (λ p. tried_to pass_next l.script p l.walk l.pool) (λ p. tried_to nr_of l.script p l.walk l.pool) l.fn.moves.items l.moves.items
