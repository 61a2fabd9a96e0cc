-- SPDX-License-Identifier: GPL-2.0-only
use Rattle.shr_audit_tables.proofs.Common.{◌≡◌, ◌++◌, map, range_with_len, draw_key, wanted_move}
use Rattle.shr_audit_tables.proofs.draws.add_numbers.Given as goal

abbrev pub invariant-loop-number : goal.invariant-loop-number
invariant-loop-number l = l.moves.items ≡ l.fn.moves.items ++ map (λ n. wanted_move (draw_key l.id n)) (range_with_len 0 l.number)
