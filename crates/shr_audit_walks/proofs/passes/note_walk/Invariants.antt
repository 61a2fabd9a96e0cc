-- SPDX-License-Identifier: GPL-2.0-only
use Rattle.shr_audit_walks.proofs.ScansCommon.{◌≡◌, ◌++◌, take, flat_map, keys_at}
use Rattle.shr_audit_walks.proofs.passes.note_walk.Given as goal

abbrev pub invariant-loop-attempt : goal.invariant-loop-attempt
invariant-loop-attempt l = l.keys.items ≡ l.fn.keys.items ++ flat_map (keys_at l.worker l.n l.walk) (take l.attempt-index l.attempt-items)
