-- SPDX-License-Identifier: GPL-2.0-only
use Rattle.shr_audit_case.proofs.SumsCommon.{take, sum_by, PassRecord, GainsAtEach}
use Rattle.shr_audit_case.proofs.Gaining.{part_at}
use Rattle.shr_audit_case.proofs.deferred.note_walk.Given as goal

abbrev pub invariant-loop-attempt : goal.invariant-loop-attempt
invariant-loop-attempt l = GainsAtEach (λ p. sum_by (part_at (λ (x : PassRecord). x.next) p l.walk) (take l.attempt-index l.walk.attempts.items)) (λ p. sum_by (part_at (λ (x : PassRecord). x.nr) p l.walk) (take l.attempt-index l.walk.attempts.items)) l.fn.moves.items l.moves.items
