-- SPDX-License-Identifier: GPL-2.0-only
use Rattle.shr_core.proofs.Common.{ℕ, ◌≡◌, ◌+◌, ◌*◌, ◌%◌, ◌^◌, ap, subst, sym, arith, bit_and, bit_not, w64, place_number, row_in, map_of, sizes_of, IsInside, with_clear}
use Rattle.shr_core.proofs.Bits.{clears, map_low}
use Rattle.shr_core.proofs.Calls.{may, inside, map_there}
use Rattle.shr_core.proofs.seat.Seat.clear_bit.Goals as goal

pub and_as-requires : goal.and_as-requires
and_as-requires c = let seat = c.self.inside in let core = seat.core.now in let i = inside core.setting.shape c.args.place (rw (← c.self.view_is) at c.requires.place) core.limits.2 core.limits.4 in let k : ℕ = c.number_of-number.result in let e = c.number_of-number.ensures in let inside-k = subst (IsInside core.setting.shape) (sym e) i in let mask : ℕ = bit_not w64 (1 * 2 ^ c.own_bit.result % 2 ^ 64) in
    may core seat.token _ (8 * row_in (sizes_of core.setting.shape) (map_of k) + 2) (λ y. bit_and y mask) (λ _ q. q ≡ (with_clear seat.token.me.0 k, seat.token.me.1)) c.self.invariant.table (omega (arith, c.bit_word-word.ensures, c.row.ensures.row, ap (λ p. row_in (sizes_of core.setting.shape) (place_number p)) c.map_with.ensures, ap (row_in (sizes_of core.setting.shape)) (map_there c.args.place k e core.setting.shape core.limits.2 core.limits.4 (rw (← c.self.view_is) at c.requires.place)))) (map_low core.setting.shape k inside-k)
    (clears core.setting _ _ seat.token.me k mask inside-k (ap (λ (b : ℕ). bit_not w64 (1 * 2 ^ b % 2 ^ 64)) c.own_bit.ensures) c.self.invariant.present)
