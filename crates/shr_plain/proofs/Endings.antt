-- SPDX-License-Identifier: GPL-2.0-only
-- The rooms at the end.
use Rattle.shr_plain.proofs.Common.{◌≡◌, ℕ, ◌+◌, ◌<◌, true, false, suc, List, [], ◌++◌, sym, refl, ap, subst, ◌∙◌, arith, Final, Seen, PlainEntry, row_count, Sizes, Slot, View, units_ends, entries_at, IsPools, units, room_journal, parts_in, units_standing_in, spent_units_view, part_of, place_of_row}
use mathlib.Core.Option.{Option, some}
use lib.ListN.{get_elem?}
use Rattle.shr_seats.specs.Standing.{IsWhole}
use Rattle.shr_seats.specs.RoomLeft.{IsRoomLeft}
use Rattle.shr_seats.proofs.RoomEnds.{left}
use Rattle.shr_plain.specs.Ending.{UnitsEndValue, units_ends_below, slot_journal}

pub ends_none : (z : Sizes) (entries : ℕ → List PlainEntry) → [] ≡ units_ends_below z 0 entries
unfolding units_ends_below
ends_none z entries = refl

ends_next : (z : Sizes) (row : ℕ) (entries : ℕ → List PlainEntry) → units_ends_below z row entries ++ units_ends (place_of_row z row) (entries row) ≡ units_ends_below z (suc row) entries
unfolding units_ends_below
ends_next z row entries = refl

-- the end of a row more
pub ends_more : (z : Sizes) (row : ℕ) (slots : List Slot) (ends : List UnitsEndValue) (slot : Slot) → get_elem? slots row ≡ some slot → ends ≡ units_ends_below z row (entries_at slots)
    → ends ++ units_ends (place_of_row z row) slot.journal.items ≡ units_ends_below z (row + 1) (entries_at slots)
ends_more z row slots ends slot value e = ap (λ (l : List UnitsEndValue). l ++ units_ends (place_of_row z row) slot.journal.items) e
    ∙ (ap (λ (o : Option Slot). units_ends_below z row (entries_at slots) ++ units_ends (place_of_row z row) (slot_journal o)) (sym value) ∙ (ends_next z row (entries_at slots) ∙ ap (λ (n : ℕ). units_ends_below z n (entries_at slots)) (let more : suc row ≡ row + 1 = omega arith in more)))

-- the journal in each slot is what the first seat made in the room
pub rooms_left : (z : Sizes) (id : ℕ) (v : View) (words : List ℕ) (slots : List Slot) → v.standing.first ≡ true → IsWhole v.standing → ((i : ℕ) → (part_of v i).in_hand ≡ false) → Final (Seen (IsPools z) id v) words slots
    → (i : ℕ) → i < row_count z → IsRoomLeft units (entries_at slots i) (part_of v i)
rooms_left z id v words slots is whole out final i low = let s = final.0 in let at = left units room_journal parts_in units_standing_in spent_units_view (λ _. refl) (row_count z) s final.1.0 id v final.1.1 is whole i low (out i) in
    subst (λ (o : Option Slot). IsRoomLeft units (slot_journal o) (part_of v i)) (sym (final.4 i at.0 at.1)) at.2
