-- SPDX-License-Identifier: GPL-2.0-only
use Rattle.shr_core.proofs.Common.{ℕ, ◌*◌, ap, subst, sym, arith, row_in, sizes_of, IsInside}
use Rattle.shr_core.proofs.Laying.{inside_low}
use Rattle.shr_core.proofs.Loads.{empties}
use Rattle.shr_core.specs.Tells.{empty_loaded}
use Rattle.shr_core.proofs.Calls.{may, inside}
use Rattle.shr_core.proofs.seat.Seat.finds_empty.Goals as goal

pub load_as-word-requires : goal.load_as-word-requires
load_as-word-requires c = let seat = c.self.inside in let core = seat.core.now in let i = inside core.setting.shape c.args.place (rw (← c.self.view_is) at c.requires.place) core.limits.2 core.limits.4 in let k : ℕ = c.number_of-number.result in let e = c.number_of-number.ensures in let inside-k = subst (IsInside core.setting.shape) (sym e) i in
    may core seat.token _ (8 * row_in (sizes_of core.setting.shape) k) (λ y. y) (empty_loaded seat.token.me k) c.self.invariant.table (omega (arith, c.count_word-word.ensures, c.row.ensures.row, ap (row_in (sizes_of core.setting.shape)) e)) (omega (arith, inside_low core.setting.shape k inside-k))
    (empties core.setting _ _ seat.token.me k inside-k c.self.invariant.present)
