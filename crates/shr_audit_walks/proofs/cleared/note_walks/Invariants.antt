-- SPDX-License-Identifier: GPL-2.0-only
use Rattle.shr_audit_walks.proofs.LaterCommon.{flat_map, take, clearings_of, Clears}
use Rattle.shr_audit_walks.proofs.cleared.note_walks.Given as goal

abbrev pub invariant-loop-n : goal.invariant-loop-n
invariant-loop-n l = Clears l.fn.cleared l.cleared (flat_map clearings_of (take l.n l.walks))
