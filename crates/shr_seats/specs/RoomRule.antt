-- SPDX-License-Identifier: GPL-2.0-only
-- The rule of one room, and of a table of rooms.
use Rattle.std.specs.Prelude.{◌≡◌, ℕ, ◌+◌, ◌*◌, ◌<◌, ◌≤◌, ◌^◌, true, ◌==◌, nat_lt, cond, List, [], ◌∷◌, ◌++◌, map, length, slice_index, sum_by, count_by}
use Rattle.atomic_table.specs.Table.{State}
use mathlib.Core.Option.{Option, some}
use lib.ListN.{get_elem?}
use Rattle.shr_model.specs.Follow.{Follow}
use Rattle.shr_seats.specs.Views.{Each}
use Rattle.shr_seats.specs.Weights.{Begins}
use Rattle.shr_seats.specs.Standing.{Standing, AreSeats, AreEmptied}
use Rattle.shr_seats.specs.RoomViews.{RoomMade, RoomCount, RoomView, part_at}

-- what a table's journals may be: which entry may follow which journal, what the count word says of
-- a journal, and the most entries that one may have
pub record Law (E : Type 0) : Type 1 where
  pub may : List E → E → Type 0
  pub len : List E → ℕ
  pub most : ℕ

-- a journal whose entries may stand
abbrev pub IsJournal : {E : Type 0} → Law E → List E → Type 0
IsJournal law journal = Follow law.may [] journal

-- a journal that its count word has room for
pub record FitsCountWord {E : Type 0} (law : Law E) (journal : List E) : Type 0 where
  pub short : length journal ≤ law.most
  pub entries : length journal < 2 ^ 32
  pub count : law.len journal < 2 ^ 32

-- an entry that was made stands at its number
abbrev pub IsEntryMade : {E : Type 0} → List E → RoomMade E → Type 0
IsEntryMade {E} journal m = (before rest : List E) × (journal ≡ before ++ m.entry ∷ rest) × (m.number ≡ length before)

-- a count is that of the entries before its version
abbrev pub CountsPrefix : {E : Type 0} → Law E → List E → RoomCount → Type 0
CountsPrefix {E} law journal c = (before rest : List E) × (journal ≡ before ++ rest) × (c.version ≡ length before) × (c.len ≡ law.len before)

-- how many of the entries that were made have this number
abbrev pub times_made : {E : Type 0} → ℕ → List (RoomMade E) → ℕ
times_made n made = count_by (λ m. m.number == n) made

-- 1 for a seat that has the room in hand
abbrev pub holds_it : {E : Type 0} → RoomView E → ℕ
holds_it t = cond t.in_hand 1 0

-- what a view knows is so of the journal
pub record IsRoomSeen {E : Type 0} (law : Law E) (journal : List E) (t : RoomView E) : Type 0 where
  pub known : Begins t.known journal
  pub heard : Each (λ h. Begins h journal) t.heard
  pub hand : t.in_hand ≡ true → t.hand ≡ journal
  pub made : Each (IsEntryMade journal) t.made
  pub seen : Each (CountsPrefix law journal) t.seen

-- The rule of one room: its journal, its lock word, its count word, what lies at home, and the views
pub record IsRoomSound {E S : Type 0} (law : Law E) (entries : S → List E) (journal : List E) (lock count : ℕ) (home : Option (Option S)) (views : List (RoomView E)) : Type 0 where
  pub legal : IsJournal law journal
  pub fits : FitsCountWord law journal
  pub counted : count ≡ length journal * 2 ^ 32 + law.len journal
  -- the lock word is the number of seats with the room in hand, at most one
  pub locks : sum_by holds_it views ≡ lock
  pub one : lock ≤ 1
  pub at_home : lock ≡ 0 → (room : S) × (home ≡ some (some room)) × (entries room ≡ journal)
  pub seen : Each (IsRoomSeen law journal) views
  -- each entry of the journal was made in one view
  pub once : (n : ℕ) → sum_by (λ t. times_made n t.made) views ≡ cond (nat_lt n (length journal)) 1 0

-- where the two words of a room stand, of its eight
abbrev pub lock_index : ℕ → ℕ
lock_index i = 8 * i

-- where the count word of a room lies
abbrev pub count_index : ℕ → ℕ
count_index i = 8 * i + 1

-- The rule of a table of so many rooms: that of each, whatever else its views have. `parts` is what
-- a view did and saw in each room.
pub record AreRoomsSound {E S V : Type 0} (law : Law E) (entries : S → List E) (parts : V → List (RoomView E)) (standing : V → Standing) (spent : V) (rooms : ℕ) (s : State S V) : Type 0 where
  pub journal : ℕ → List E
  pub wide : length s.words ≡ 8 * rooms
  pub each : (i : ℕ) → i < rooms → IsRoomSound law entries (journal i) (slice_index s.words (lock_index i)) (slice_index s.words (count_index i)) (get_elem? s.homes i) (map (λ v. part_at (parts v) i) s.views)
  pub seats : AreSeats (map standing s.views)
  pub emptied : AreEmptied standing spent s.views
