-- SPDX-License-Identifier: GPL-2.0-only
-- The words of the table at known values.
use Rattle.shr_core.proofs.Common.{◌≡◌, ◌+◌, ◌*◌, refl, [], ◌∷◌, Some, None, List, ℕ, Registered, Unregistered, Idle, place_number, place_at, row_in, places_in, rooms_in, words_in, counts_in, locks_in, bits_in, map_of, map_number, place_bit, above, version_of, length_of, Sizes, word_in, turn_at, met_in, owed_after, raise}

-- declaration 0 in its first registration, after one held lookup
after_one_lookup : word_in 1099511628033 ≡ record { decl = 0; phase = 1; lookups = 1; refs = 1 }
after_one_lookup = refl

-- declaration 3 dying after seven lookups
dying_word : word_in (3 * 72057594037927936 + 2 * 1099511627776 + 7 * 256) ≡ record { decl = 3; phase = 2; lookups = 7; refs = 0 }
dying_word = refl

-- a list after one add and one drop
count_after_two : version_of 8589934592 ≡ 2
count_after_two = refl

length_after_two : length_of 8589934592 ≡ 0
length_after_two = refl

-- an idle id with declaration 2 comes to be live with declaration 5
raise_to_live : (7 * 256 + 2 * 72057594037927936 + 3 * 1099511627776 + raise 2 5) ≡ 5 * 72057594037927936 + 4 * 1099511627776 + 7 * 256
raise_to_live = refl

-- id 65, node 2, group 3
place_of_number : place_at (1024 * 65 + 256 * 2 + 3) ≡ record { id = 65; node = 2; group = 3 }
place_of_number = refl

number_of_place : place_number (record { id = 65; node = 2; group = 3 }) ≡ 67075
number_of_place = refl

-- the sizes of 3 ids, 2 nodes and 4 groups
abbrev sizes : Sizes
sizes = record { ids = 3; nodes = 2; groups = 4 }

-- the last place, of id 2, node 1 and group 3, has the last row of a place
row_of_last : row_in sizes (1024 * 2 + 256 * 1 + 3) ≡ 23
row_of_last = refl

-- and the pool's room the row after it
row_of_pool : row_in sizes (places_in 3) ≡ 24
row_of_pool = refl

rooms_there_are : rooms_in sizes ≡ 25
rooms_there_are = refl

words_there_are : words_in sizes ≡ 200
words_there_are = refl

abbrev two_groups : Sizes
two_groups = record { ids = 1; nodes = 1; groups = 2 }

abbrev one_group : Sizes
one_group = record { ids = 1; nodes = 1; groups = 1 }

-- two rows, each with its four words and four that stay 0
abbrev words : List ℕ
words = 10 ∷ 11 ∷ 12 ∷ 13 ∷ 0 ∷ 0 ∷ 0 ∷ 0 ∷ 20 ∷ 21 ∷ 22 ∷ 23 ∷ 0 ∷ 0 ∷ 0 ∷ 0 ∷ []

-- group 1 has the second row, and where there is one group no row, so that 0 is read
count_of_second : counts_in two_groups words 1 ≡ 20
count_of_second = refl

lock_of_second : locks_in two_groups words 1 ≡ 21
lock_of_second = refl

bits_of_second : bits_in two_groups words 1 ≡ 22
bits_of_second = refl

count_of_none : counts_in one_group words 1 ≡ 0
count_of_none = refl

-- it has bit 1 of the second unit's word
map_of_place : map_of 67075 ≡ map_number 2 3 1
map_of_place = refl

bit_of_place : place_bit 67075 ≡ 1
bit_of_place = refl

-- the place of the parent of group 2 under root, 1 and 2
above_second : above (0 ∷ 0 ∷ 1 ∷ []) (1024 * 4 + 256 + 2) ≡ 1024 * 4 + 256 + 1
above_second = refl

-- what a lookup meets, and the entry of a phase step, by the phase
met_live : met_in (record { decl = 4; phase = 1; lookups = 9; refs = 0 }) ≡ Some 4
met_live = refl

met_dying : met_in (record { decl = 4; phase = 2; lookups = 9; refs = 0 }) ≡ None
met_dying = refl

turn_to_live : turn_at 6 4 (record { decl = 0; phase = 3; lookups = 9; refs = 0 }) ≡ Registered 4 6 9
turn_to_live = refl

turn_to_dying : turn_at 6 4 (record { decl = 4; phase = 4; lookups = 11; refs = 1 }) ≡ Unregistered 4 6 11
turn_to_dying = refl

turn_to_idle : turn_at 6 4 (record { decl = 4; phase = 5; lookups = 11; refs = 0 }) ≡ Idle 6
turn_to_idle = refl

-- a first object below the root is owed, and one of the root is not
first_object_owed : owed_after 1 0 1 [] ≡ 1 ∷ []
first_object_owed = refl

root_object_not_owed : owed_after 0 0 1 [] ≡ []
root_object_not_owed = refl
