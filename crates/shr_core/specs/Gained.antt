-- SPDX-License-Identifier: GPL-2.0-only
-- What a call adds to its seat's view.
use Rattle.std.specs.Prelude.{◌≡◌, ℕ, ◌+◌, ◌<◌, List, [], ◌∷◌, ◌++◌, None}
use Rattle.shr_seats.specs.Weights.{times, Begins}
use Rattle.shr_core.specs.declared.view.View.{View}
use Rattle.shr_seats.specs.Lines.{by_seat}
use Rattle.shr_core.specs.Order.{IsUsing}
use Rattle.shr_core.specs.Parts.{Made, Counted, Mapped, Tried, Loaded, Turn, Event, counted, made, looked, loaded, turned, put_back, raised, cleared, mapped, no_rooms}

-- The entries of places that were made, the counts seen and the rooms tried in vain; the maps seen,
-- the bits set and the bits cleared; the lookups made and the words loaded; the pool's entries
-- made, and how often its journal was met: it was given back, or an id was looked up by what is
-- known of it. Each list is in order.
pub record Gained : Type 0 where
  pub made : List Made
  pub seen : List Counted
  pub tries : List ℕ
  pub maps : List Mapped
  pub sets : List ℕ
  pub cleared : List ℕ
  pub attempts : List Tried
  pub loaded : List Loaded
  pub turns : List Turn
  pub gives : ℕ

-- what a call gains that adds nothing
abbrev pub nothing : Gained
nothing = record { made = []; seen = []; tries = []; maps = []; sets = []; cleared = []; attempts = []; loaded = []; turns = []; gives = 0 }

-- one gain after another
abbrev pub then_gained : Gained → Gained → Gained
then_gained g h = record {
  made = g.made ++ h.made;
  seen = g.seen ++ h.seen;
  tries = g.tries ++ h.tries;
  maps = g.maps ++ h.maps;
  sets = g.sets ++ h.sets;
  cleared = g.cleared ++ h.cleared;
  attempts = g.attempts ++ h.attempts;
  loaded = g.loaded ++ h.loaded;
  turns = g.turns ++ h.turns;
  gives = g.gives + h.gives;
}

-- what a function finds in each event, in order
abbrev pub among : {A : Type 0} → (Event → List A) → List Event → List A
among f [] = []
among f (e ∷ es) = f e ++ among f es

-- the count that an event is, if it is one
abbrev pub seen_in : Event → List Counted
seen_in (counted x) = x ∷ []
seen_in (made x) = []
seen_in (looked x) = []
seen_in (loaded x) = []
seen_in (turned x) = []
seen_in (put_back i) = []
seen_in (raised x) = []
seen_in (cleared x) = []
seen_in (mapped x) = []

-- the entry that an event made, if it made one
abbrev pub made_in : Event → List Made
made_in (counted x) = []
made_in (made x) = x ∷ []
made_in (looked x) = []
made_in (loaded x) = []
made_in (turned x) = []
made_in (put_back i) = []
made_in (raised x) = []
made_in (cleared x) = []
made_in (mapped x) = []

-- the lookup that an event is, if it is one
abbrev pub attempts_in : Event → List Tried
attempts_in (counted x) = []
attempts_in (made x) = []
attempts_in (looked x) = x ∷ []
attempts_in (loaded x) = []
attempts_in (turned x) = []
attempts_in (put_back i) = []
attempts_in (raised x) = []
attempts_in (cleared x) = []
attempts_in (mapped x) = []

-- the lookup word that an event loaded, if it loaded one
abbrev pub loaded_in : Event → List Loaded
loaded_in (counted x) = []
loaded_in (made x) = []
loaded_in (looked x) = []
loaded_in (loaded x) = x ∷ []
loaded_in (turned x) = []
loaded_in (put_back i) = []
loaded_in (raised x) = []
loaded_in (cleared x) = []
loaded_in (mapped x) = []

-- the entry of the pool that an event made, if it made one
abbrev pub turns_in : Event → List Turn
turns_in (counted x) = []
turns_in (made x) = []
turns_in (looked x) = []
turns_in (loaded x) = []
turns_in (turned x) = x ∷ []
turns_in (put_back i) = []
turns_in (raised x) = []
turns_in (cleared x) = []
turns_in (mapped x) = []

-- the place whose bit an event set, if it set one
abbrev pub sets_in : Event → List ℕ
sets_in (counted x) = []
sets_in (made x) = []
sets_in (looked x) = []
sets_in (loaded x) = []
sets_in (turned x) = []
sets_in (put_back i) = []
sets_in (raised x) = x ∷ []
sets_in (cleared x) = []
sets_in (mapped x) = []

-- the place whose bit an event cleared, if it cleared one
abbrev pub cleared_in : Event → List ℕ
cleared_in (counted x) = []
cleared_in (made x) = []
cleared_in (looked x) = []
cleared_in (loaded x) = []
cleared_in (turned x) = []
cleared_in (put_back i) = []
cleared_in (raised x) = []
cleared_in (cleared x) = x ∷ []
cleared_in (mapped x) = []

-- the bit word that an event loaded, if it loaded one
abbrev pub maps_in : Event → List Mapped
maps_in (counted x) = []
maps_in (made x) = []
maps_in (looked x) = []
maps_in (loaded x) = []
maps_in (turned x) = []
maps_in (put_back i) = []
maps_in (raised x) = []
maps_in (cleared x) = []
maps_in (mapped x) = x ∷ []

-- these events, by their kinds, are what was gained
pub record AreKinds (did : List Event) (g : Gained) : Type 0 where
  pub seen : among seen_in did ≡ g.seen
  pub made : among made_in did ≡ g.made
  pub attempts : among attempts_in did ≡ g.attempts
  pub loaded : among loaded_in did ≡ g.loaded
  pub turns : among turns_in did ≡ g.turns
  pub sets : among sets_in did ≡ g.sets
  pub cleared : among cleared_in did ≡ g.cleared
  pub maps : among maps_in did ≡ g.maps

-- The view gained these and no more. What it knows of journals and what it dated may have grown;
-- what it heard of journals by joins, and where it stands among the seats, stays.
pub record Adds (v w : View) (g : Gained) : Type 0 where
  pub made : w.traces.made ≡ v.traces.made ++ g.made
  pub seen : w.traces.seen ≡ v.traces.seen ++ g.seen
  pub tries : w.traces.tries ≡ v.traces.tries ++ g.tries
  pub maps : w.marks.maps ≡ v.marks.maps ++ g.maps
  pub sets : w.marks.sets ≡ v.marks.sets ++ g.sets
  pub cleared : w.marks.cleared ≡ v.marks.cleared ++ g.cleared
  pub attempts : w.claims.attempts ≡ v.claims.attempts ++ g.attempts
  pub loaded : w.claims.loaded ≡ v.claims.loaded ++ g.loaded
  pub turned : w.turns.made ≡ v.turns.made ++ g.turns
  pub gives : w.turns.gives ≡ v.turns.gives + g.gives
  pub known : Begins v.traces.known w.traces.known
  pub pool : Begins v.turns.known w.turns.known
  pub heard : w.turns.heard ≡ v.turns.heard
  pub dated : Begins v.turns.dated w.turns.dated
  pub standing : w.standing ≡ v.standing
  -- what it did more, in order, and of each kind
  pub did : List Event
  pub noted : w.did ≡ v.did ++ by_seat v.seat did
  pub kinds : AreKinds did g
  pub seat : w.seat ≡ v.seat
  -- by what it did its seat uses just the id that it holds, if that was so before
  pub using : IsUsing v → IsUsing w

-- no place is owed that was not owed before
abbrev pub OwesNoMore : View → View → Type 0
OwesNoMore v w = (k : ℕ) → 0 < times k w.marks.owed → 0 < times k v.marks.owed

-- no room is in hand, and no id is held or owned
pub record IsIdle (v : View) : Type 0 where
  pub rooms : v.holding ≡ no_rooms
  pub held : v.claims.held ≡ None
  pub owner : v.claims.owner ≡ None
