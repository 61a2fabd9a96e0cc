-- SPDX-License-Identifier: GPL-2.0-only
use Rattle.shr_audit_tables.proofs.Common.{◌≡◌, ◌++◌, map, take, drawn_move}
use Rattle.shr_audit_tables.proofs.draws.add_drawn.Given as goal

abbrev pub invariant-loop-key : goal.invariant-loop-key
invariant-loop-key l = l.moves.items ≡ l.fn.moves.items ++ map drawn_move (take l.key-index l.keys)
