-- SPDX-License-Identifier: GPL-2.0-only
use Rattle.shr_audit_case.proofs.SumsCommon.{take, sum_by, GainsAtEach, carried_to, carried_from}
use Rattle.shr_audit_case.proofs.deferred.note_carries.Given as goal

abbrev pub invariant-loop-carry : goal.invariant-loop-carry
invariant-loop-carry l = GainsAtEach (λ p. sum_by (carried_to l.parents p) (take l.carry-index l.carries)) (λ p. sum_by (carried_from p) (take l.carry-index l.carries)) l.fn.moves.items l.moves.items
