-- SPDX-License-Identifier: GPL-2.0-only
-- The rule of a room at known values: journals of numbers, each the number of entries before it.
use Rattle.shr_seats.proofs.RoomsCommon.{◌≡◌, ℕ, ◌<◌, ◌≤◌, List, [], ◌∷◌, length, refl, arith, Each-none, Each-one, RoomMade, RoomCount, RoomView, no_room, with_room_count, joined_room, part_at, Law, FitsCountWord, IsEntryMade, CountsPrefix, times_made, lock_index, count_index, IsRecent, lit<, lit≤, IsJournal}
use Rattle.shr_seats.specs.RoomViews.{with_known, with_entry, with_part_at, joined_parts}

-- each entry is the number of those before it, and there are three at most
abbrev numbers : Law ℕ
numbers = record { may = λ before e. e ≡ length before; len = length; most = 3 }

two : IsJournal numbers (0 ∷ 1 ∷ [])
two = (refl, (refl, tt))

not_swapped : IsJournal numbers (1 ∷ 0 ∷ []) → ⊥
not_swapped h = omega (arith, h.0)

three_fit : FitsCountWord numbers (0 ∷ 1 ∷ 2 ∷ [])
three_fit = record { short = lit≤ tt; entries = lit< tt; count = lit< tt }

not_four : FitsCountWord numbers (0 ∷ 1 ∷ 2 ∷ 3 ∷ []) → ⊥
not_four h = omega (arith, h.short)

-- an entry stands at its number
second_made : IsEntryMade {E = ℕ} (7 ∷ 8 ∷ []) (record { number = 1; entry = 8 })
second_made = (7 ∷ [], [], refl, refl)

-- a count is that of the entries before its version
one_counted : CountsPrefix numbers (0 ∷ 1 ∷ []) (record { len = 1; version = 1 })
one_counted = (0 ∷ [], 1 ∷ [], refl, refl, refl)

not_counted : CountsPrefix numbers (0 ∷ 1 ∷ []) (record { len = 2; version = 1 }) → ⊥
not_counted h = let long = h.3 in let len = h.4 in omega (arith, long, len)

abbrev nothing : RoomView ℕ
nothing = no_room

-- one that knows these entries
abbrev knowing : List ℕ → RoomView ℕ
knowing journal = with_known nothing journal

-- one that counted 5 after nine entries
abbrev counting : RoomView ℕ
counting = with_room_count nothing 5 9

abbrev third : RoomMade ℕ
third = record { number = 2; entry = 2 }

-- a room that was looked at, and one where an entry was put behind two
looked : knowing (0 ∷ 1 ∷ []) ≡ record nothing { known = 0 ∷ 1 ∷ [] }
looked = refl

put : with_entry nothing (0 ∷ 1 ∷ []) 2 ≡ record nothing { made = third ∷ []; known = 0 ∷ 1 ∷ 2 ∷ [] }
put = refl

-- a joined view keeps what it knew, and hears of what the other knew, if that is anything
heard : joined_room (knowing (0 ∷ [])) (knowing (0 ∷ 1 ∷ [])) ≡ record nothing { known = 0 ∷ []; heard = (0 ∷ 1 ∷ []) ∷ [] }
heard = refl

heard_nothing : joined_room (knowing (0 ∷ [])) nothing ≡ knowing (0 ∷ [])
heard_nothing = refl

-- a part past the end is that of a seat that did nothing there
second_room : with_part_at [] 1 counting ≡ nothing ∷ counting ∷ []
unfolding with_part_at
second_room = refl

third_room : part_at (with_part_at [] 1 counting) 2 ≡ nothing
unfolding with_part_at
third_room = refl

longer : joined_parts (knowing (0 ∷ []) ∷ []) (nothing ∷ counting ∷ []) ≡ knowing (0 ∷ []) ∷ counting ∷ []
unfolding joined_parts
longer = refl

-- two rooms stand 64 bytes apart
second_words : (lock_index 1 ≡ 8) × (count_index 1 ≡ 9)
second_words = (refl, refl)

-- a seat that counted after nine entries did all that it did by nine, and not by eight
by_nine : IsRecent counting 9
by_nine = record { known = lit≤ tt; heard = Each-none (λ (h : List ℕ). length h ≤ 9); made = Each-none (λ (m : RoomMade ℕ). m.number < 9); seen = Each-one (λ (c : RoomCount). c.version ≤ 9) (record { len = 5; version = 9 }) (lit≤ tt) }

not_by_eight : IsRecent counting 8 → ⊥
not_by_eight h = let low = h.seen 0 (record { len = 5; version = 9 }) refl in omega (arith, low)

-- an entry was made once, and another wasn't
made_once : (times_made 2 (third ∷ []) ≡ 1) × (times_made 1 (third ∷ []) ≡ 0)
made_once = (refl, refl)
