-- SPDX-License-Identifier: GPL-2.0-only
use Rattle.shr_core.proofs.Common.{ℕ, ◌+◌, ◌*◌, ◌/◌, refl, ap, arith, row_in, sizes_of}
use Rattle.shr_core.proofs.Laying.{row_yes}
use Rattle.shr_core.specs.Tells.{mapped}
use Rattle.shr_core.proofs.Loads.{maps}
use Rattle.shr_core.proofs.Calls.{may}
use Rattle.shr_core.proofs.seat.Seat.map.Goals as goal

pub load_as-requires : goal.load_as-requires
load_as-requires c = let seat = c.self.inside in let core = seat.core.now in let p = (rw (← c.self.view_is) at c.requires.place) in let b : ℕ = c.number_of.result in let is = c.number_of.ensures in
    may core seat.token _ (8 * row_in (sizes_of core.setting.shape) b + 2) (λ y. y) (mapped core.setting.shape seat.token.me b (b / 1024)) c.self.invariant.table (omega (arith, c.bit_word-word.ensures, c.row.ensures.row, ap (row_in (sizes_of core.setting.shape)) is)) (omega (arith, c.row.ensures.row, c.row.ensures.low, ap (row_in (sizes_of core.setting.shape)) is))
    (maps core.setting _ _ seat.token.me b (b / 1024) (omega (arith, is, p.0, p.1, p.2, core.limits.2, core.limits.4)) (row_yes (sizes_of core.setting.shape) b (omega (arith, is, p.0, p.1, core.limits.2, core.limits.4)) (omega (arith, is, p.0, p.1, core.limits.2, core.limits.4))) refl c.self.invariant.present)
