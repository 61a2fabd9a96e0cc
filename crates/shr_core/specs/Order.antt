-- SPDX-License-Identifier: GPL-2.0-only
-- One order of all that the seats of a core did.
use Rattle.std.specs.Prelude.{◌≡◌, ℕ, ◌+◌, ◌-◌, ◌%◌, ◌<◌, ◌≤◌, false, List, [], ◌∷◌, ◌++◌, length, cond, ◌==◌, if◌then◌else◌, Option, Some, None}
use Rattle.std.specs.Int.{bit_at}
use mathlib.Core.Option.{some}
use lib.ListN.{get_elem?}
use Rattle.shr_base.specs.declared.journals.Entry.{Entry}
use Rattle.shr_base.specs.declared.journals.Entry.TheVariants.{Add, Look, Drop, Pin, Scan, MovedIn, Closed, Drained}
use Rattle.shr_base.specs.declared.journals.PoolEntry.{PoolEntry}
use Rattle.shr_base.specs.declared.journals.PoolEntry.TheVariants.{Registered, Unregistered, Idle}
use Rattle.shr_model.specs.Items.{HasJournal}
use Rattle.shr_model.specs.Pool.{phase_of, decl_of, is_live}
use Rattle.shr_seats.specs.Standing.{Standing}
use Rattle.shr_seats.specs.Lines.{Deed, state_after, AreSo, AreInLine}
use Rattle.shr_seats.specs.Weights.{times, without}
use Rattle.shr_core.specs.declared.view.View.{View}
use Rattle.shr_core.specs.Parts.{Event, counted, made, looked, loaded, turned, put_back, raised, cleared, mapped}
use Rattle.shr_core.specs.Layout.{places_in, place_id, map_of, place_bit}
use Rattle.shr_core.specs.Lookup.{refs_of, lookups_of}

-- What the core has at one moment: the journal of each place, the pool's journal, the number of
-- each id's next lookup and of its references, and 1 for each place whose bit is set.
pub record Moment : Type 0 where
  pub now : ℕ → List Entry
  pub pool : List PoolEntry
  pub next : ℕ → ℕ
  pub refs : ℕ → ℕ
  pub bits : ℕ → ℕ

-- nothing was done yet, and the first lookups have this number
abbrev pub at_start : ℕ → Moment
at_start first = record { now = λ k. []; pool = []; next = λ i. first; refs = λ i. 0; bits = λ k. 0 }

-- the moment after an event
abbrev pub moment_after : Moment → Event → Moment
moment_after t (counted x) = t
moment_after t (made x) = record t { now = λ k. cond (k == x.place) (t.now k ++ x.entry ∷ []) (t.now k) }
moment_after t (looked x) = record t { next = λ i. cond (i == x.id) (t.next i + 1) (t.next i); refs = λ i. cond (i == x.id) (t.refs i + 1) (t.refs i) }
moment_after t (loaded x) = t
moment_after t (turned x) = record t { pool = t.pool ++ x.entry ∷ [] }
moment_after t (put_back i) = record t { refs = λ j. cond (j == i) (t.refs j - 1) (t.refs j) }
moment_after t (raised k) = record t { bits = λ j. cond (j == k) 1 (t.bits j) }
moment_after t (cleared k) = record t { bits = λ j. cond (j == k) 0 (t.bits j) }
moment_after t (mapped x) = t

-- a registration begins and ends at the number of the id's next lookup
abbrev pub IsDrawnAt : Moment → PoolEntry → Type 0
IsDrawnAt t (Registered decl id from) = from ≡ t.next id
IsDrawnAt t (Unregistered decl id to) = to ≡ t.next id
IsDrawnAt t (Idle id) = Unit {0}

-- an id comes to be idle with empty lists: the journal of each of its places leaves nothing
abbrev pub LeavesNothing : Moment → PoolEntry → Type 0
LeavesNothing t (Registered decl id from) = Unit {0}
LeavesNothing t (Unregistered decl id to) = Unit {0}
LeavesNothing t (Idle id) = (k : ℕ) → place_id k ≡ id → HasJournal (t.now k) []

-- a list is drained while its id is dying
abbrev pub IsTimely : Moment → ℕ → Entry → Type 0
IsTimely t id (Drained by objects) = phase_of id t.pool % 3 ≡ 2
IsTimely t id e = Unit {0}

-- An event is so at this moment: a count has the version of then, an entry stands next in its
-- journal, a lookup has the next number of its id and is held where the id is live, and a map has
-- just the bits of then. A loaded word has the lookups, the phase and the references of then. An
-- entry of the pool stands next in its journal, and at an Idle the lists of the id are empty. A
-- Drained stands where the id is dying.
abbrev pub IsSo : ℕ → Moment → Event → Type 0
IsSo ids t (counted x) = x.version ≡ length (t.now x.place)
IsSo ids t (made x) = (x.number ≡ length (t.now x.place)) × IsTimely t (place_id x.place) x.entry
IsSo ids t (looked x) = (x.number ≡ t.next x.id) × (x.held ≡ (if is_live x.id t.pool then Some (decl_of x.id t.pool) else None))
IsSo ids t (loaded x) = (x.word.lookups ≡ t.next x.id) × (x.word.phase ≡ phase_of x.id t.pool) × (x.word.refs ≡ t.refs x.id)
IsSo ids t (turned x) = (x.number ≡ length t.pool) × IsDrawnAt t x.entry × LeavesNothing t x.entry
IsSo ids t (put_back i) = 0 < t.refs i
IsSo ids t (raised k) = Unit {0}
IsSo ids t (cleared k) = Unit {0}
IsSo ids t (mapped x) = (k : ℕ) → k < places_in ids → map_of k ≡ x.map → bit_at x.bits (place_bit k) ≡ t.bits k

-- the moment after a deed
abbrev pub moment_next : Moment → Deed Event → Moment
moment_next t d = moment_after t d.act

-- each event of the line is so after those before it
abbrev pub AreEvents : ℕ → ℕ → List (Deed Event) → Type 0
AreEvents ids first line = AreSo moment_next (λ t d. IsSo ids t d.act) (at_start first) line

-- the moment after all of the line
abbrev pub last_moment : ℕ → List (Deed Event) → Moment
last_moment first line = state_after moment_next (at_start first) line

-- the moment is what these journals, bit words and lookup words have
pub record IsMoment (ids : ℕ) (now : ℕ → List Entry) (pool : List PoolEntry) (bits look : ℕ → ℕ) (t : Moment) : Type 0 where
  pub journals : (k : ℕ) → t.now k ≡ now k
  pub registrations : t.pool ≡ pool
  pub lookups : (i : ℕ) → i < ids → t.next i ≡ lookups_of (look i)
  pub references : (i : ℕ) → i < ids → t.refs i ≡ refs_of (look i)
  pub flags : (k : ℕ) → k < places_in ids → t.bits k ≡ bit_at (bits (map_of k)) (place_bit k)

-- the seats that have a reference to each id
abbrev pub Holders : Type 0
Holders = ℕ → List ℕ

-- no seat has one
abbrev pub no_holders : Holders
no_holders i = []

-- a lookup takes a reference for its seat, and a put gives its seat's back
abbrev pub holders_after : Holders → ℕ → Event → Holders
holders_after h seat (counted x) = h
holders_after h seat (made x) = h
holders_after h seat (looked x) = λ i. cond (i == x.id) (h i ++ seat ∷ []) (h i)
holders_after h seat (loaded x) = h
holders_after h seat (turned x) = h
holders_after h seat (put_back j) = λ i. cond (i == j) (without seat (h i)) (h i)
holders_after h seat (raised k) = h
holders_after h seat (cleared k) = h
holders_after h seat (mapped x) = h

-- who holds each id after a deed
abbrev pub holders_next : Holders → Deed Event → Holders
holders_next h d = holders_after h d.seat d.act

-- a seat looks up an id to which it has no reference, and gives back the one that it has
abbrev pub IsOwn : Holders → ℕ → Event → Type 0
IsOwn h seat (counted x) = Unit {0}
IsOwn h seat (made x) = Unit {0}
IsOwn h seat (looked x) = times seat (h x.id) ≡ 0
IsOwn h seat (loaded x) = Unit {0}
IsOwn h seat (turned x) = Unit {0}
IsOwn h seat (put_back i) = times seat (h i) ≡ 1
IsOwn h seat (raised k) = Unit {0}
IsOwn h seat (cleared k) = Unit {0}
IsOwn h seat (mapped x) = Unit {0}

-- a reference is given back only by the seat that took it
abbrev pub AreOwn : List (Deed Event) → Type 0
AreOwn line = AreSo holders_next (λ h d. IsOwn h d.seat d.act) no_holders line

-- the seats that have a reference after all of the line
abbrev pub last_holders : List (Deed Event) → Holders
last_holders line = state_after holders_next no_holders line

-- the seat of a lookup that found its id live
abbrev pub finder : Option ℕ → ℕ → List ℕ
finder None seat = []
finder (Some decl) seat = seat ∷ []

-- The seats that use each id: a lookup that finds the id live makes its seat one of them, until the
-- seat gives its reference back.
abbrev pub users_after : Holders → ℕ → Event → Holders
users_after u seat (counted x) = u
users_after u seat (made x) = u
users_after u seat (looked x) = λ i. cond (i == x.id) (u i ++ finder x.held seat) (u i)
users_after u seat (loaded x) = u
users_after u seat (turned x) = u
users_after u seat (put_back j) = λ i. cond (i == j) (without seat (u i)) (u i)
users_after u seat (raised k) = u
users_after u seat (cleared k) = u
users_after u seat (mapped x) = u

-- who uses each id after a deed
abbrev pub users_next : Holders → Deed Event → Holders
users_next u d = users_after u d.seat d.act

-- the seats that use an id after all of the line
abbrev pub last_users : List (Deed Event) → Holders
last_users line = state_after users_next no_holders line

-- who adds or scans uses the id of the list, and no seat does where a list is drained
abbrev pub IsMadeInUse : Holders → ℕ → ℕ → Entry → Type 0
IsMadeInUse u seat id (Add by birth added key value) = 0 < times seat (u id)
IsMadeInUse u seat id (Look by birth key hit) = Unit {0}
IsMadeInUse u seat id (Drop by birth key kind) = Unit {0}
IsMadeInUse u seat id (Pin by birth key pinned hit) = Unit {0}
IsMadeInUse u seat id (Scan worker walk asked policy visits freed stopped) = 0 < times seat (u id)
IsMadeInUse u seat id (MovedIn child objects) = Unit {0}
IsMadeInUse u seat id Closed = Unit {0}
IsMadeInUse u seat id (Drained by objects) = u id ≡ []

-- and none does where an id comes to be idle
abbrev pub IsOutOfUse : Holders → PoolEntry → Type 0
IsOutOfUse u (Registered decl id from) = Unit {0}
IsOutOfUse u (Unregistered decl id to) = Unit {0}
IsOutOfUse u (Idle id) = u id ≡ []

-- an event is one that the users of its id allow
abbrev pub IsInUse : Holders → ℕ → Event → Type 0
IsInUse u seat (counted x) = Unit {0}
IsInUse u seat (made x) = IsMadeInUse u seat (place_id x.place) x.entry
IsInUse u seat (looked x) = Unit {0}
IsInUse u seat (loaded x) = Unit {0}
IsInUse u seat (turned x) = IsOutOfUse u x.entry
IsInUse u seat (put_back i) = Unit {0}
IsInUse u seat (raised k) = Unit {0}
IsInUse u seat (cleared k) = Unit {0}
IsInUse u seat (mapped x) = Unit {0}

-- what is done on the lists of an id is done in its use, and its end after that
abbrev pub AreInUse : List (Deed Event) → Type 0
AreInUse line = AreSo users_next (λ u d. IsInUse u d.seat d.act) no_holders line

-- the id, if there is one
abbrev pub ids_of : Option ℕ → List ℕ
ids_of None = []
ids_of (Some i) = i ∷ []

-- the ids that a view holds or probes
abbrev pub references_of : View → List ℕ
references_of v = ids_of v.claims.held ++ ids_of v.claims.probe

-- by what a view did, its seat uses just the id that the view holds
abbrev pub IsUsing : View → Type 0
IsUsing v = (i : ℕ) → times v.seat (last_users v.did i) ≡ times i (ids_of v.claims.held)

-- where a view stands among the seats
abbrev pub stands_at : View → Standing
stands_at v = v.standing

-- what a view did, and the seats that were joined into it
abbrev pub did_in : View → List (Deed Event)
did_in v = v.did

-- There is one order of all that the seats did, in which each seat's events stand as it did them,
-- each is so where it stands, and which leaves what there is now.
pub record AreOrdered (ids first : ℕ) (now : ℕ → List Entry) (pool : List PoolEntry) (bits look : ℕ → ℕ) (views : List View) : Type 0 where
  pub line : List (Deed Event)
  pub lined : AreInLine stands_at did_in views line
  pub events : AreEvents ids first line
  pub ends : IsMoment ids now pool bits look (last_moment first line)
  -- a view has the number of its seat
  pub named : (i : ℕ) (v : View) → get_elem? views i ≡ some v → v.standing.gone ≡ false → v.seat ≡ i
  -- a reference is given back only by the seat that took it
  pub own : AreOwn line
  -- a view's seat has a reference to just what the view holds or probes, and no other seat has one
  pub held : (j : ℕ) (v : View) → get_elem? views j ≡ some v → (i : ℕ) → times j (last_holders line i) ≡ times i (references_of v)
  pub none_else : (j : ℕ) → length views ≤ j → (i : ℕ) → times j (last_holders line i) ≡ 0
  -- what is done on an id's lists is done in its use
  pub uses : AreInUse line
  -- a view's seat uses just the id that the view holds, and no other seat uses one
  pub users : (j : ℕ) (v : View) → get_elem? views j ≡ some v → (i : ℕ) → times j (last_users line i) ≡ times i (ids_of v.claims.held)
  pub no_user : (j : ℕ) → length views ≤ j → (i : ℕ) → times j (last_users line i) ≡ 0
