-- SPDX-License-Identifier: GPL-2.0-only
use Rattle.shr_core.proofs.Common.{◌≡◌, ℕ, ◌<◌, true, false, map, get_or, slots_items, slots_filled, end_value, ends_below, entries_in, items_in, slots_len}
use Rattle.std.specs.Mem.Slots.Ownership.{Filled}
use Rattle.shr_core.proofs.Laying.{number_at}
use Rattle.shr_core.proofs.ending.take_ends.Given as goal

abbrev pub invariant-loop-row : goal.invariant-loop-row
invariant-loop-row l = (slots_items l.ended.slots ≡ slots_items l.initial.ended.slots) × (slots_len l.ended.slots ≡ slots_len l.initial.ended.slots) × (l.ended.words ≡ l.initial.ended.words)
    × Filled (slots_filled l.ended.slots) l.row (slots_len l.ended.slots) × ((k : ℕ) → k < l.row → get_or (slots_filled l.ended.slots) k false ≡ false)
    × (l.whole ≡ true → map end_value l.ends.items ≡ ends_below (number_at l.sizes l.row) (entries_in l.sizes (slots_items l.initial.ended.slots)) (items_in l.sizes (slots_items l.initial.ended.slots)))
