-- SPDX-License-Identifier: GPL-2.0-only
use Rattle.shr_audit_walks.proofs.LaterCommon.{flat_map, take, Clears, cleared_by}
use Rattle.shr_audit_walks.proofs.cleared.note_walk.Given as goal

abbrev pub invariant-loop-attempt : goal.invariant-loop-attempt
invariant-loop-attempt l = Clears l.fn.cleared l.cleared (flat_map (cleared_by l.walk) (take l.attempt-index l.attempt-items))
