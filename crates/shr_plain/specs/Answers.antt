-- SPDX-License-Identifier: GPL-2.0-only
-- What a release and a grab did, by their answers.
use Rattle.std.specs.Prelude.{◌≡◌, ℕ, ◌+◌, ◌<◌, ◌≤◌, true, false, List, length}
use Rattle.shr_base.specs.declared.places.Place.{Place}
use Rattle.shr_base.specs.declared.places.Serial.{Serial}
use Rattle.shr_base.specs.declared.journals.PlainEntry.{PlainEntry}
use Rattle.shr_base.specs.declared.journals.PlainEntry.TheVariants.{Release, Grab}
use Rattle.shr_base.specs.declared.replies.Spent.{Spent}
use Rattle.shr_base.specs.declared.replies.Spent.TheVariants as spent
use Rattle.shr_model.specs.Units.{free_of}
use Rattle.shr_seats.specs.RoomViews.{part_at, with_part_at, with_known, with_entry}
use Rattle.shr_seats.specs.RoomTold.{IsTold}
use Rattle.shr_plain.specs.declared.answers.ReleaseAnswer.{ReleaseAnswer}
use Rattle.shr_plain.specs.declared.answers.ReleaseAnswer.TheVariants as release
use Rattle.shr_plain.specs.declared.answers.GrabAnswer.{GrabAnswer}
use Rattle.shr_plain.specs.declared.answers.GrabAnswer.TheVariants as grab
use Rattle.shr_plain.specs.Rule.{units}
use Rattle.shr_plain.specs.Seat.{PlainState}

-- the seat saw this journal of a room, which is now what it knows there, and did nothing else
pub record Sees (i : ℕ) (s t : PlainState) (journal : List PlainEntry) : Type 0 where
  pub told : IsTold units (part_at s.rooms i) journal
  pub state : t ≡ record s { rooms = with_part_at s.rooms i (with_known (part_at s.rooms i) journal) }

-- the seat saw this journal of a room and made the next entry, and did nothing else
pub record Makes (i : ℕ) (s t : PlainState) (journal : List PlainEntry) (e : PlainEntry) : Type 0 where
  pub told : IsTold units (part_at s.rooms i) journal
  pub state : t ≡ record s { rooms = with_part_at s.rooms i (with_entry (part_at s.rooms i) journal e) }

-- a journal has no room for another entry: it is the list that is told to be used up, with its
-- entries and its free units
pub record IsJournalWorn (place : Place) (journal : List PlainEntry) (x : Spent) : Type 0 where
  pub full : length journal ≡ 2147483648
  pub spent : x ≡ spent.List place (length journal) (free_of journal)

-- what a release did in the room of a place
abbrev pub ReleaseGives : Place → ℕ → Serial → ℕ → ReleaseAnswer → PlainState → PlainState → Type 0
ReleaseGives place i by n (release.Full entries free) s t = (journal : List PlainEntry) × Sees i s t journal × (entries ≡ length journal) × (free ≡ free_of journal) × (20000 < free + n)
ReleaseGives place i by n (release.Worn x) s t = (journal : List PlainEntry) × Sees i s t journal × IsJournalWorn place journal x × (free_of journal + n ≤ 20000)
ReleaseGives place i by n release.Memory s t = (journal : List PlainEntry) × Sees i s t journal × (length journal < 2147483648) × (free_of journal + n ≤ 20000)
ReleaseGives place i by n (release.Released entry) s t = (journal : List PlainEntry) × Makes i s t journal (Release by n) × (entry ≡ length journal)

-- what a grab did in the room of a place
abbrev pub GrabGives : Place → ℕ → Serial → GrabAnswer → PlainState → PlainState → Type 0
GrabGives place i by (grab.Worn x) s t = (journal : List PlainEntry) × Sees i s t journal × IsJournalWorn place journal x
GrabGives place i by grab.Memory s t = (journal : List PlainEntry) × Sees i s t journal × (length journal < 2147483648)
GrabGives place i by (grab.Grabbed entry) s t = (journal : List PlainEntry) × Makes i s t journal (Grab by true) × (0 < free_of journal) × (entry ≡ length journal)
GrabGives place i by (grab.Bare entry) s t = (journal : List PlainEntry) × Makes i s t journal (Grab by false) × (free_of journal ≡ 0) × (entry ≡ length journal)
