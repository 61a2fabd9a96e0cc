-- SPDX-License-Identifier: GPL-2.0-only
-- What is left of a room once all other seats were joined into the first.
use Rattle.std.specs.Prelude.{◌≡◌, ℕ, nat_lt, cond, List, length}
use Rattle.shr_seats.specs.RoomViews.{RoomView}
use Rattle.shr_seats.specs.RoomRule.{Law, IsJournal, FitsCountWord, IsRoomSeen, times_made}

-- the entries that the view made are the journal, each once, and what it knew and saw is so of it
pub record IsRoomLeft {E : Type 0} (law : Law E) (journal : List E) (t : RoomView E) : Type 0 where
  pub legal : IsJournal law journal
  pub fits : FitsCountWord law journal
  pub seen : IsRoomSeen law journal t
  pub once : (n : ℕ) → times_made n t.made ≡ cond (nat_lt n (length journal)) 1 0
