-- SPDX-License-Identifier: GPL-2.0-only
-- What a pool on a node means as a shrinker, by a seat at its room.
use Rattle.std.specs.Prelude.{◌≡◌, ◌≢◌, ℕ, ◌&&◌, ◌==◌, nat_le, cond, min, List, [], ◌++◌, map, filter_map, Option, Some, None}
use Rattle.shr_base.specs.declared.places.Place.{Place}
use Rattle.shr_base.specs.declared.journals.PlainEntry.{PlainEntry}
use Rattle.shr_base.specs.declared.journals.PlainEntry.TheVariants.{Release, Grab, Reclaim}
use Rattle.shr_base.specs.declared.replies.Spent.{Spent}
use Rattle.shr_model.specs.Units.{free_of}
use Rattle.shr_pass.specs.declared.answers.Count.{Count}
use Rattle.shr_pass.specs.declared.answers.Count.TheVariants as count
use Rattle.shr_pass.specs.declared.answers.ScanSeen.{ScanSeen}
use Rattle.shr_pass.specs.declared.answers.ScanAnswer.{ScanAnswer}
use Rattle.shr_pass.specs.declared.answers.ScanAnswer.TheVariants as answered
use Rattle.shr_seats.specs.Views.{Each}
use Rattle.shr_seats.specs.Weights.{Begins}
use Rattle.shr_seats.specs.RoomViews.{RoomMade, RoomCount, RoomView}
use Rattle.shr_seats.specs.RoomTold.{IsRecent}
use Rattle.shr_plain.specs.Answers.{IsJournalWorn}
use Rattle.shr_plain.specs.Rule.{part_of}
use Rattle.shr_plain.specs.Seat.{UnitSeat}
use Rattle.shr_plain.specs.Taking.{UnitsSat, Looked, Put}

-- the kind of a count: none is free, no more than the floor, or more
abbrev pub units_kind : ℕ → RoomCount → Count
units_kind floor c = cond (c.len == 0) (count.Empty c.version) (cond (nat_le c.len floor) (count.Skip c.len c.version) (count.Many c.len c.version))

-- the kinds of all counts that a seat saw in a room, in order
abbrev pub counts_seen : ℕ → RoomView PlainEntry → List Count
counts_seen floor t = map (units_kind floor) t.seen

-- a scan of this walk
abbrev pub units_scan_by : ℕ → ℕ → RoomMade PlainEntry → Option ScanSeen
units_scan_by worker walk m = scan_in m.entry where
  scan_in : PlainEntry → Option ScanSeen
  scan_in (Release by units) = None
  scan_in (Grab by got) = None
  scan_in (Reclaim w s asked freed) = cond ((w == worker) && (s == walk)) (Some (record { asked = asked; freed = freed })) None

-- the scans of this walk among entries, in order
abbrev pub scans_of : ℕ → ℕ → List (RoomMade PlainEntry) → List ScanSeen
scans_of worker walk made = filter_map (units_scan_by worker walk) made

-- an entry is a reclaim of this walk
abbrev pub IsReclaimOf : ℕ → ℕ → PlainEntry → Type 0
IsReclaimOf worker walk (Release by units) = ⊥
IsReclaimOf worker walk (Grab by got) = ⊥
IsReclaimOf worker walk (Reclaim w s asked freed) = (w ≡ worker) × (s ≡ walk)

-- What a view gains in the room while a walk counts and scans there: reclaims of this walk and some
-- counts, each after all that the view did and saw there before.
pub record WalksUnits (worker walk : ℕ) (t u : RoomView PlainEntry) : Type 0 where
  pub more : List (RoomMade PlainEntry)
  pub made : u.made ≡ t.made ++ more
  pub reclaims : Each (λ (m : RoomMade PlainEntry). IsReclaimOf worker walk m.entry) more
  pub late : Each (λ (m : RoomMade PlainEntry). IsRecent t m.number) more
  pub counts : List RoomCount
  pub seen : u.seen ≡ t.seen ++ counts
  pub fresh : Each (λ (c : RoomCount). IsRecent t c.version) counts
  pub known : Begins t.known u.known
  pub heard : u.heard ≡ t.heard
  pub hand : u.in_hand ≡ t.in_hand

-- a seat gains that in one room, and nothing else of it changes
pub record KeepsUnits (i worker walk : ℕ) (s t : UnitSeat) : Type 0 where
  pub table : t.table_id ≡ s.table_id
  pub bare : s.me.1 ≡ [] → t.me.1 ≡ []
  pub standing : t.me.0.standing ≡ s.me.0.standing
  pub here : WalksUnits worker walk (part_of s.me.0 i) (part_of t.me.0 i)
  pub others : (k : ℕ) → k ≢ i → part_of t.me.0 k ≡ part_of s.me.0 k

-- the view knows a journal of this place that has no room for another entry
pub record IsWornIn (place : Place) (t : RoomView PlainEntry) (x : Spent) : Type 0 where
  pub journal : List PlainEntry
  pub known : Begins journal t.known
  pub worn : IsJournalWorn place journal x

-- what an answer of a scan showed: it is never Stop or Closed
abbrev pub TellsUnits : Place → ScanAnswer → RoomView PlainEntry → Type 0
TellsUnits place (answered.Freed objects) t = Unit {0}
TellsUnits place answered.Closed t = ⊥
TellsUnits place answered.Stop t = ⊥
TellsUnits place answered.NoRoom t = Unit {0}
TellsUnits place (answered.Worn x) t = IsWornIn place t x

-- what a scan did in the room of a place
abbrev pub ReclaimGives : Place → ℕ → ℕ → ℕ → ℕ → ScanAnswer → UnitsSat → UnitsSat → Type 0
ReclaimGives place i worker walk asked (answered.Freed objects) m r = (journal : List PlainEntry) × Put i m r journal (Reclaim worker walk asked objects) × (objects ≡ min asked (free_of journal))
ReclaimGives place i worker walk asked answered.Closed m r = ⊥
ReclaimGives place i worker walk asked answered.Stop m r = ⊥
ReclaimGives place i worker walk asked answered.NoRoom m r = (journal : List PlainEntry) × Looked i m r journal
ReclaimGives place i worker walk asked (answered.Worn x) m r = (journal : List PlainEntry) × Looked i m r journal × IsJournalWorn place journal x
