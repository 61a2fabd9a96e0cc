-- SPDX-License-Identifier: GPL-2.0-only
-- What a seat's view holds, in its parts. Places are named by their numbers.
use Rattle.std.specs.Prelude.{ℕ, List, [], Option, None, Bool, false}
use Rattle.shr_base.specs.declared.objects.Object.{Object}
use Rattle.shr_base.specs.declared.journals.Entry.{Entry}
use Rattle.shr_base.specs.declared.journals.PoolEntry.{PoolEntry}
use Rattle.shr_base.specs.declared.ends.LookupWord.{LookupWord}

-- what a room has: the journal of its place, its items and the two limits of its list, or the
-- pool's journal
pub record RoomContent : Type 0 where
  pub entries : List Entry
  pub items : List Object
  pub most_items : ℕ
  pub most_entries : ℕ
  pub pool : List PoolEntry

-- a room in hand
pub record Hand : Type 0 where
  pub room : ℕ
  pub content : RoomContent

-- The rooms in hand, the one taken last first, with the entries whose counts are stored; and the
-- child's place whose list was moved into its parent's and is not closed yet, if there is one
pub record Holding : Type 0 where
  pub hands : List Hand
  pub half : Option ℕ

-- an entry that the seat made: its place and number, and the items before it
pub record Made : Type 0 where
  pub place : ℕ
  pub number : ℕ
  pub entry : Entry
  pub items : List Object

-- a prefix of a place's journal
pub record Known : Type 0 where
  pub place : ℕ
  pub entries : List Entry

-- a count: after the first `version` entries the list had `len` items
pub record Counted : Type 0 where
  pub place : ℕ
  pub len : ℕ
  pub version : ℕ

-- The entries made, the prefixes of journals known, the counts seen, and the places whose room was
-- tried in vain.
pub record Traces : Type 0 where
  pub made : List Made
  pub known : List Known
  pub seen : List Counted
  pub tries : List ℕ

-- a bit word seen, with the places whose bit the seat had set by then
pub record Mapped : Type 0 where
  pub map : ℕ
  pub bits : ℕ
  pub set : List ℕ

-- the places owed, those whose bit was set and cleared, in order, and the maps seen
pub record Marks : Type 0 where
  pub owed : List ℕ
  pub sets : List ℕ
  pub cleared : List ℕ
  pub maps : List Mapped

-- a lookup that was made: its number, and the declaration where it was held
pub record Tried : Type 0 where
  pub id : ℕ
  pub number : ℕ
  pub held : Option ℕ

-- a lookup word that was loaded
pub record Loaded : Type 0 where
  pub id : ℕ
  pub word : LookupWord

-- The id that the seat may look up next, that it holds, that it probes and that it owns, where
-- there is one; the number and the declaration by which it holds; the lookups made and the words
-- loaded, in order; whether a load showed that no view holds the owned id; and for each node the
-- group from which on the owned id's lists are empty
pub record Claims : Type 0 where
  pub may : Option ℕ
  pub held : Option ℕ
  pub number : ℕ
  pub decl : ℕ
  pub probe : Option ℕ
  pub attempts : List Tried
  pub loaded : List Loaded
  pub owner : Option ℕ
  pub quiet : Bool
  pub drained : List ℕ

-- an entry of the pool's journal that the seat made
pub record Turn : Type 0 where
  pub number : ℕ
  pub entry : PoolEntry

-- an id that was held when the pool was given back, or that was looked up by what is known of its
-- journal; the number of the lookup that held it, and how many entries the journal then had, or are
-- known
pub record Dated : Type 0 where
  pub id : ℕ
  pub number : ℕ
  pub entries : ℕ

-- The pool's entries made, the prefix of its journal that is known, and how often the journal was
-- met: it was given back, or an id was looked up by what is known of it
pub record Turns : Type 0 where
  pub made : List Turn
  pub known : List PoolEntry
  pub gives : ℕ
  -- what the seats that were joined in knew of it
  pub heard : List (List PoolEntry)
  -- the ids that were held when it was given, or were looked up by what is known of it
  pub dated : List Dated

-- One event at the table: a count seen, an entry made, a lookup made, a lookup word loaded, an entry
-- of the pool made, an id's reference given back, a place's bit set and cleared, and a bit word seen.
pub data Event : Type 0 where
  counted : Counted → Event
  made : Made → Event
  looked : Tried → Event
  loaded : Loaded → Event
  turned : Turn → Event
  put_back : ℕ → Event
  raised : ℕ → Event
  cleared : ℕ → Event
  mapped : Mapped → Event

-- no room in hand, and no splice in progress
abbrev pub no_rooms : Holding
no_rooms = record { hands = []; half = None }

-- nothing made, known, counted or tried
abbrev pub no_traces : Traces
no_traces = record { made = []; known = []; seen = []; tries = [] }

-- no bit owed, set, cleared or seen
abbrev pub no_marks : Marks
no_marks = record { owed = []; sets = []; cleared = []; maps = [] }

-- no id held, probed or owned, and no lookup made
abbrev pub no_claims : Claims
no_claims = record { may = None; held = None; number = 0; decl = 0; probe = None; attempts = []; loaded = []; owner = None; quiet = false; drained = [] }

-- no entry of the pool's journal made or known
abbrev pub no_turns : Turns
no_turns = record { made = []; known = []; gives = 0; heard = []; dated = [] }
