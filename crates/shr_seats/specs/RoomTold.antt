-- SPDX-License-Identifier: GPL-2.0-only
-- What a step tells of a room's journal.
use Rattle.std.specs.Prelude.{◌≡◌, ℕ, ◌<◌, ◌≤◌, List, length}
use Rattle.shr_seats.specs.Views.{Each}
use Rattle.shr_seats.specs.RoomViews.{RoomView}
use Rattle.shr_seats.specs.RoomRule.{Law, IsJournal, FitsCountWord, IsRoomSeen}

-- what a room shows that was taken or counted: its journal is right, and holds what the view knows
pub record IsTold {E : Type 0} (law : Law E) (t : RoomView E) (journal : List E) : Type 0 where
  pub legal : IsJournal law journal
  pub fits : FitsCountWord law journal
  pub seen : IsRoomSeen law journal t

-- all that a view did and saw was done and seen by so many entries
pub record IsRecent {E : Type 0} (t : RoomView E) (n : ℕ) : Type 0 where
  pub known : length t.known ≤ n
  pub heard : Each (λ h. length h ≤ n) t.heard
  pub made : Each (λ m. m.number < n) t.made
  pub seen : Each (λ c. c.version ≤ n) t.seen

-- a count that was loaded: it is that of a journal which holds what the view knew before
pub record IsCount {E : Type 0} (law : Law E) (t : RoomView E) (amount entries : ℕ) : Type 0 where
  pub journal : List E
  pub told : IsTold law t journal
  pub len : amount ≡ law.len journal
  pub version : entries ≡ length journal
