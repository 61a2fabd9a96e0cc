-- SPDX-License-Identifier: GPL-2.0-only
use Rattle.shr_plain.proofs.Common.{◌≡◌, ℕ, ◌<◌, true, false, map, get_or, slots_items, slots_filled, units_end_value, units_ends_below, entries_at, slots_len}
use Rattle.std.specs.Mem.Slots.Ownership.{Filled}
use Rattle.shr_plain.proofs.ending.take_ends.Given as goal

abbrev pub invariant-loop-row : goal.invariant-loop-row
invariant-loop-row l = (slots_items l.closed.slots ≡ slots_items l.initial.closed.slots) × (slots_len l.closed.slots ≡ slots_len l.initial.closed.slots)
    × Filled (slots_filled l.closed.slots) l.row (slots_len l.closed.slots) × ((k : ℕ) → k < l.row → get_or (slots_filled l.closed.slots) k false ≡ false)
    × (l.whole ≡ true → map units_end_value l.ends.items ≡ units_ends_below l.sizes l.row (entries_at (slots_items l.initial.closed.slots)))
