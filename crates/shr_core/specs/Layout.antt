-- SPDX-License-Identifier: GPL-2.0-only
-- Where each word and each room lies. A place has its number, by which views and journals name it,
-- whatever the sizes: strides are those of 4 nodes and 256 groups. Words and rooms stand in rows,
-- one for each place of the sizes and one for the pool.
use Rattle.std.specs.Prelude.{ℕ, ◌+◌, ◌*◌, ◌/◌, ◌%◌, ◌^◌, List, slice_index, Bool, ◌&&◌, nat_lt, cond}
use mathlib.Core.Option.{Option}
use lib.ListN.{get_elem?}
use Rattle.shr_base.specs.declared.places.Place.{Place}
use Rattle.shr_model.specs.Groups.{parent_of}
use Rattle.shr_seats.specs.declared.rows.Sizes.{Sizes}
use Rattle.shr_seats.specs.Rows.{row_of, row_count}
use Rattle.shr_core.specs.Slots.{Slot}

-- the id of the place with this number
abbrev pub place_id : ℕ → ℕ
place_id k = k / 1024

-- the node of the place with this number
abbrev pub node_of : ℕ → ℕ
node_of k = k / 256 % 4

-- the group of the place with this number
abbrev pub group_of : ℕ → ℕ
group_of k = k % 256

-- the place with this number
abbrev pub place_at : ℕ → Place
place_at k = record { id = place_id k; node = node_of k; group = group_of k }

-- the number of the place of another group at the same id and node
abbrev pub beside : ℕ → ℕ → ℕ
beside k group = 256 * (k / 256) + group

-- the number of the place of the parent group
abbrev pub above : List ℕ → ℕ → ℕ
above parents k = beside k (parent_of parents (group_of k))

-- the number of a bit word: that of its node and group in its unit of 64 ids
abbrev pub map_number : ℕ → ℕ → ℕ → ℕ
map_number node group unit = 1024 * unit + 256 * node + group

-- the number of the bit word in which the place with this number has its bit
abbrev pub map_of : ℕ → ℕ
map_of k = 1024 * (k / 65536) + k % 1024

-- the bit of the place with this number, in its bit word
abbrev pub place_bit : ℕ → ℕ
place_bit k = k / 1024 % 64

-- the sizes have the node and the group of this number
abbrev pub is_row : Sizes → ℕ → Bool
is_row z k = nat_lt (node_of k) z.nodes && nat_lt (group_of k) z.groups

-- the row of the place with this number; the pool's is the one after the last place's
abbrev pub row_in : Sizes → ℕ → ℕ
row_in z k = row_of z (place_at k)

-- the count word of the place with this number, and 0 where the sizes lack the place
abbrev pub counts_in : Sizes → List ℕ → ℕ → ℕ
counts_in z words k = cond (is_row z k) (slice_index words (8 * row_in z k)) 0

-- the lock word of the room with this number
abbrev pub locks_in : Sizes → List ℕ → ℕ → ℕ
locks_in z words room = cond (is_row z room) (slice_index words (8 * row_in z room + 1)) 0

-- the bit word with this number
abbrev pub bits_in : Sizes → List ℕ → ℕ → ℕ
bits_in z words map = cond (is_row z map) (slice_index words (8 * row_in z map + 2)) 0

-- what lies in the slot of the room with this number
abbrev pub homes_in : Sizes → List (Option Slot) → ℕ → Option (Option Slot)
homes_in z homes room = get_elem? homes (row_in z room)

-- the lookup word of this id
abbrev pub looks_in : List ℕ → ℕ → ℕ
looks_in words id = slice_index words (8 * id + 3)

-- the numbers of these ids' places are below this; each has the room of its number, and this is the
-- number of the pool's
abbrev pub places_in : ℕ → ℕ
places_in ids = 1024 * ids

-- how many rooms there are: one for each place, and the pool's
abbrev pub rooms_in : Sizes → ℕ
rooms_in z = row_count z + 1

-- how many words there are: eight for each room, of which four stay 0
abbrev pub words_in : Sizes → ℕ
words_in z = 8 * row_count z + 8

-- the version in a count word: how many entries the journal has
abbrev pub version_of : ℕ → ℕ
version_of w = w / 2 ^ 32

-- the length in a count word: how many items the list has
abbrev pub length_of : ℕ → ℕ
length_of w = w % 2 ^ 32
