-- SPDX-License-Identifier: GPL-2.0-only
use Rattle.shr_audit_case.proofs.SumsCommon.{take, sum_by, flat_map, PassRecord, passes_at, GainsAtEach}
use Rattle.shr_audit_case.proofs.deferred.note_walks.Given as goal

abbrev pub invariant-loop-walk : goal.invariant-loop-walk
invariant-loop-walk l = GainsAtEach (λ p. sum_by (λ (x : PassRecord). x.next) (flat_map (passes_at p) (take l.walk-index l.walks))) (λ p. sum_by (λ (x : PassRecord). x.nr) (flat_map (passes_at p) (take l.walk-index l.walks))) l.fn.moves.items l.moves.items
