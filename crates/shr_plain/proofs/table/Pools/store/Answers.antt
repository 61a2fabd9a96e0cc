-- SPDX-License-Identifier: GPL-2.0-only
use Rattle.shr_plain.proofs.Common.{◌≡◌, ◌+◌, ◌*◌, subst, sym, refl, ap, ◌∙◌, arith, length, Allows, free_of, Sizes, with_room_stored, IsPools, units, room_journal, parts_in, units_standing_in, spent_units_view, with_parts, with_part, part_of, row_count}
use Rattle.shr_seats.proofs.RoomSteps.{stores}
use Rattle.shr_plain.proofs.SeatLaws.{became}
use Rattle.shr_plain.proofs.table.Pools.store.Goals as goal

pub store_as-requires-clause-step : goal.store_as-requires-clause-step
store_as-requires-clause-step c = let d = c.args.self.now in let t = d.table.shared in let m = c.args.seat.now.me in let id = c.args.seat.now.id in let e = c.args.entry in let slot = c.args.slot.now in let more = c.requires.more in
    let long = ap length more in let free = slot.kept ∙ ap free_of more in
    subst (λ (k : Sizes). Allows (IsPools k) t.table_id.slots id m (8 * c.args.room + 1) (λ _. c.len.result * 4294967296 + slot.free) (λ _ r. r ≡ (with_part m.0 c.args.room (with_room_stored (part_of m.0 c.args.room) e), m.1))) (sym d.keyed)
    (stores units room_journal parts_in units_standing_in spent_units_view with_parts (λ v l. refl) (λ v l. refl) (row_count d.sizes) t.table_id.slots id m c.requires.seat.here c.args.room c.requires.room e (c.len.result * 4294967296 + slot.free) c.requires.hand c.requires.may
    (record { short = omega (arith, long, c.requires.few); entries = omega (arith, long, c.requires.few); count = omega (arith, free, slot.low) }) (omega (arith, c.len.ensures, long, free)))

pub returns : goal.returns
returns c = record { stored = became c.args.seat.now c.store_as.new.seat _ c.store_as.ensures.told }
