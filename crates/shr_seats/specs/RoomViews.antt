-- SPDX-License-Identifier: GPL-2.0-only
-- What a seat did and saw in one room, and the steps on it.
use Rattle.std.specs.Prelude.{ℕ, zero, suc, slice_index_or, Bool, true, false, List, [], ◌∷◌, ◌++◌, map, length}

-- an entry that the seat made, with its number
pub record RoomMade (E : Type 0) : Type 0 where
  pub number : ℕ
  pub entry : E

-- a count that it loaded: after so many entries there were so many
pub record RoomCount : Type 0 where
  pub len : ℕ
  pub version : ℕ

-- what a seat did and saw in one room
pub record RoomView (E : Type 0) : Type 0 where
  pub made : List (RoomMade E)
  -- the prefix of the journal that it knows, and those that the seats knew which were joined into it
  pub known : List E
  pub heard : List (List E)
  pub seen : List RoomCount
  -- whether it has the room in hand, and then the journal
  pub in_hand : Bool
  pub hand : List E

-- nothing done or seen
abbrev pub no_room : {E : Type 0} → RoomView E
no_room = record { made = []; known = []; heard = []; seen = []; in_hand = false; hand = [] }

-- the room was taken with this journal
abbrev pub with_room_hand : {E : Type 0} → RoomView E → List E → RoomView E
with_room_hand t journal = record t { in_hand = true; hand = journal }

-- the room was given back: its journal is known
abbrev pub with_room_given : {E : Type 0} → RoomView E → RoomView E
with_room_given t = record t { known = t.hand; in_hand = false; hand = [] }

-- an entry was stored
abbrev pub with_room_stored : {E : Type 0} → RoomView E → E → RoomView E
with_room_stored t e = record t { made = t.made ++ (record { number = length t.hand; entry = e }) ∷ []; hand = t.hand ++ e ∷ [] }

-- a count was loaded
abbrev pub with_room_count : {E : Type 0} → RoomView E → ℕ → ℕ → RoomView E
with_room_count t len version = record t { seen = t.seen ++ (record { len = len; version = version }) ∷ [] }

-- the room was taken with this journal, and given back as it was
abbrev pub with_known : {E : Type 0} → RoomView E → List E → RoomView E
with_known t journal = with_room_given (with_room_hand t journal)

-- the room was taken with this journal, and given back with one entry more
abbrev pub with_entry : {E : Type 0} → RoomView E → List E → E → RoomView E
with_entry t journal e = with_room_given (with_room_stored (with_room_hand t journal) e)

-- a prefix that another seat knew, where it knew any entry
abbrev pub heard_of : {E : Type 0} → List E → List (List E)
heard_of [] = []
heard_of (e ∷ es) = (e ∷ es) ∷ []

-- what another did and saw went into it
abbrev pub joined_room : {E : Type 0} → RoomView E → RoomView E → RoomView E
joined_room t u = record t { made = t.made ++ u.made; heard = t.heard ++ (heard_of u.known ++ u.heard); seen = t.seen ++ u.seen }

-- the part of a room among the parts of a view, which are as many as were changed
abbrev pub part_at : {E : Type 0} → List (RoomView E) → ℕ → RoomView E
part_at parts i = slice_index_or parts i no_room

-- another part of a room
unfoldable pub with_part_at : {E : Type 0} → List (RoomView E) → ℕ → RoomView E → List (RoomView E)
with_part_at [] zero t = t ∷ []
with_part_at [] (suc i) t = no_room ∷ with_part_at [] i t
with_part_at (x ∷ xs) zero t = t ∷ xs
with_part_at (x ∷ xs) (suc i) t = x ∷ with_part_at xs i t

-- what another did and saw in each room went into these
unfoldable pub joined_parts : {E : Type 0} → List (RoomView E) → List (RoomView E) → List (RoomView E)
joined_parts [] us = map (joined_room no_room) us
joined_parts (t ∷ ts) [] = map (λ x. joined_room x no_room) (t ∷ ts)
joined_parts (t ∷ ts) (u ∷ us) = joined_room t u ∷ joined_parts ts us
