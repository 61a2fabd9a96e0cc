-- SPDX-License-Identifier: GPL-2.0-only
-- One order of all that the workers did at the table of the caches, as far as a report tells it.
use Rattle.std.specs.Prelude.{◌≡◌, ◌≢◌, ℕ, ◌+◌, ◌<◌, ◌≤◌, true, List, [], ◌∷◌, ◌++◌, length, map, flat_map, take, slice_get, Option, Some, None, option_to_list, AllPairs, Contains}
use Rattle.std.specs.Option.{IsSomeAnd}
use Rattle.shr_base.specs.declared.journals.Entry.{Entry}
use Rattle.shr_base.specs.declared.journals.Entry.TheVariants.{Add, Scan, Drained}
use Rattle.shr_base.specs.declared.journals.PoolEntry.{PoolEntry}
use Rattle.shr_base.specs.declared.journals.PoolEntry.TheVariants.{Registered, Unregistered, Idle}
use Rattle.shr_base.specs.declared.places.Place.{Place}
use Rattle.shr_base.specs.declared.places.Serial.{Serial}
use Rattle.shr_base.specs.declared.replies.Answered.{Answered}
use Rattle.shr_base.specs.declared.replies.Found.{Found}
use Rattle.shr_base.specs.Walks.{Attempt, WalkRecord}
use Rattle.shr_model.specs.Attempts.{Count, number_of, counts_of}
use Rattle.shr_model.specs.Items.{HasJournal}
use Rattle.shr_model.specs.Pool.{decl_at, registrations, is_dying}
use Rattle.shr_model.specs.Walks.{place_in}
use Rattle.shr_laws.specs.declared.report.Report.{Report}
use Rattle.shr_laws.specs.Parts.{serial_of, answer_at, reply_at, walks_of, walks_by, journals_of, entry_by}
use Rattle.shr_laws.specs.Causes.{IsMadeBy}

-- What a report tells of one step: an entry of the list at a place, a lookup of an id, an entry of
-- the journal of registrations, each by its number, or a worker's count with this number.
pub data Told : Type 0 where
  entry : Place → ℕ → Told
  lookup : ℕ → ℕ → Told
  turn : ℕ → Told
  count : ℕ → ℕ → Told

-- ---- lookups
-- an id with the number of a lookup
abbrev pub lookup_numbered : ℕ → Option ℕ → List (ℕ × ℕ)
lookup_numbered id None = []
lookup_numbered id (Some number) = (id, number) ∷ []

-- those of the attempts of a walk
abbrev pub numbers_tried : WalkRecord → List (ℕ × ℕ)
numbers_tried w = flat_map (λ (a : Attempt). lookup_numbered a.id (number_of a.outcome)) w.attempts.items

-- and that of a found cache
abbrev pub number_found : Option Found → List (ℕ × ℕ)
number_found None = []
number_found (Some f) = (f.id, f.number) ∷ []

-- the lookups of a command, in order: those of its walks, and then that of the cache that it found
abbrev pub looked_by : Report → Serial → List (ℕ × ℕ)
looked_by r by = flat_map (λ (a : Answered). flat_map numbers_tried (walks_by r by) ++ number_found a.found) (option_to_list (answer_at r by))

-- ---- counts
-- a count of a place by a walk of this command
pub record Counting : Type 0 where
  pub by : Serial
  pub place : Place
  pub seen : Count

-- those of a walk, in order
abbrev pub countings_in : WalkRecord → List Counting
countings_in w = flat_map (λ (a : Attempt). map (λ (c : Count). record { by = w.by; place = place_in w a.id; seen = c }) (counts_of a.outcome)) w.attempts.items

-- and those of all walks of a worker
abbrev pub countings_of : Report → ℕ → List Counting
countings_of r worker = flat_map countings_in (walks_of r worker)

-- ---- what is told, and by whom
-- the list has an element with this number, of which P holds
abbrev pub HasAt : {A : Type 0} → List A → ℕ → (A → Type 0) → Type 0
HasAt {A} xs n P = (x : A) × (slice_get xs n ≡ Some x) × P x

-- the report tells this
abbrev pub ReportTells : Report → Told → Type 0
ReportTells r (entry place n) = HasAt (journals_of r place) n (λ (e : Entry). Unit {0})
ReportTells r (lookup id n) = (by : Serial) × Contains (looked_by r by) (id, n)
ReportTells r (turn n) = HasAt r.pool.items n (λ (e : PoolEntry). Unit {0})
ReportTells r (count worker n) = HasAt (countings_of r worker) n (λ (c : Counting). Unit {0})

-- and tells it of this command
abbrev pub IsBy : Report → Serial → Told → Type 0
IsBy r by (entry place n) = HasAt (journals_of r place) n (λ (e : Entry). entry_by r e ≡ Some by)
IsBy r by (lookup id n) = Contains (looked_by r by) (id, n)
IsBy r by (turn n) = HasAt r.pool.items n (λ (e : PoolEntry). IsSomeAnd (reply_at r by) (IsMadeBy r e n))
IsBy r by (count worker n) = HasAt (countings_of r worker) n (λ (c : Counting). c.by ≡ by)

-- ---- what numbers say
-- what only grows: the entries of the list at a place, the lookups of an id, the entries of the
-- journal of registrations
pub data ToldMeasure : Type 0 where
  entries : Place → ToldMeasure
  lookups : ℕ → ToldMeasure
  turns : ToldMeasure

-- a registration tells the number of its id's next lookup
abbrev pub TurnTells : ℕ → ℕ → ℕ → PoolEntry → Type 0
TurnTells i low high (Registered decl id from) = (id ≡ i) × (low ≡ from) × (high ≡ from)
TurnTells i low high (Unregistered decl id to) = (id ≡ i) × (low ≡ to) × (high ≡ to)
TurnTells i low high (Idle id) = ⊥

-- what is told says that there were `low` before it, and that there are `high` after it
abbrev pub TellsOf : Report → ToldMeasure → Told → ℕ → ℕ → Type 0
TellsOf r (entries p) (entry place n) low high = (place ≡ p) × (low ≡ n) × (high ≡ n + 1)
TellsOf r (entries p) (count worker n) low high = HasAt (countings_of r worker) n (λ (c : Counting). (c.place ≡ p) × (low ≡ c.seen.version) × (high ≡ c.seen.version))
TellsOf r (lookups i) (lookup id n) low high = (id ≡ i) × (low ≡ n) × (high ≡ n + 1)
TellsOf r (lookups i) (turn n) low high = HasAt r.pool.items n (TurnTells i low high)
TellsOf r turns (turn n) low high = (low ≡ n) × (high ≡ n + 1)
TellsOf r m x low high = ⊥

-- ---- what is done in the use of an id
-- an add, or a scan
abbrev pub IsOfUse : Entry → Type 0
IsOfUse (Add by birth added key value) = Unit {0}
IsOfUse (Scan worker walk asked policy visits freed stopped) = Unit {0}
IsOfUse e = ⊥

-- the entry is a Drained
abbrev pub IsDrainedEntry : Entry → Type 0
IsDrainedEntry (Drained by objects) = Unit {0}
IsDrainedEntry e = ⊥

-- a list of the id is drained, or the id comes to be idle
abbrev pub EndsUse : Report → ℕ → Told → Type 0
EndsUse r id (entry place n) = (place.id ≡ id) × HasAt (journals_of r place) n IsDrainedEntry
EndsUse r id (turn n) = HasAt r.pool.items n (λ (e : PoolEntry). e ≡ Idle id)
EndsUse r id x = ⊥

-- The entry comes behind a lookup that this command made of its list's id, with a number that lies in a registration. What
-- ends the use of the id comes before that lookup or behind the entry.
pub record IsEntryInUse (r : Report) (rank : Told → ℕ) (by : Serial) (place : Place) (n : ℕ) : Type 0 where
  pub number : ℕ
  pub looked : Contains (looked_by r by) (place.id, number)
  pub registered : decl_at number (registrations place.id r.pool.items) ≢ None
  pub behind : rank (lookup place.id number) < rank (entry place n)
  pub before : (x : Told) → EndsUse r place.id x → rank (lookup place.id number) < rank x → rank (entry place n) < rank x

-- of so many of a row the first m come before this, and the others behind it
pub record ComesBehind (rank : Told → ℕ) (row : ℕ → Told) (long m : ℕ) (x : Told) : Type 0 where
  pub few : m ≤ long
  pub before : (i : ℕ) → i < m → rank (row i) < rank x
  pub others : (i : ℕ) → m ≤ i → i < long → rank x < rank (row i)

-- there are so many entries of the journal of registrations before this, by which the id is dying
pub record IsWhileDying (r : Report) (rank : Told → ℕ) (id : ℕ) (x : Told) : Type 0 where
  pub turns : ℕ
  pub behind : ComesBehind rank turn (length r.pool.items) turns x
  pub dying : is_dying id (take turns r.pool.items) ≡ true

-- there are so many entries of the list at the place before this, which leave nothing
pub record IsWhileEmpty (r : Report) (rank : Told → ℕ) (place : Place) (x : Told) : Type 0 where
  pub entries : ℕ
  pub behind : ComesBehind rank (entry place) (length (journals_of r place)) entries x
  pub empty : HasJournal (take entries (journals_of r place)) []

-- There is one order of all that is told.
pub record IsInOneOrder (r : Report) : Type 0 where
  -- where each stands in it
  pub rank : Told → ℕ
  -- of two that tell of one measure, that comes first of which there were fewer before than there are after the other
  pub by_numbers : (x y : Told) → ReportTells r x → ReportTells r y → x ≢ y → (m : ToldMeasure) (low high low' high' : ℕ) → TellsOf r m x low high → TellsOf r m y low' high' → low < high' → rank x < rank y
  -- what a worker did stands in the order of its commands,
  pub by_worker : (x y : Told) (worker k later : ℕ) → k < later → IsBy r (serial_of worker k) x → IsBy r (serial_of worker later) y → rank x < rank y
  -- a command's lookups in the order in which it made them, and so a worker's counts
  pub looked : (by : Serial) → AllPairs (λ x y. rank (lookup x.0 x.1) < rank (lookup y.0 y.1)) (looked_by r by)
  pub counted : (worker m n : ℕ) → m < n → n < length (countings_of r worker) → rank (count worker m) < rank (count worker n)
  -- a command's adds to a list, and its scans, are made while it uses the list's id
  pub used : (place : Place) (n : ℕ) (by : Serial) → HasAt (journals_of r place) n IsOfUse → IsBy r by (entry place n) → IsEntryInUse r rank by place n
  -- a list is drained while its id is dying, and an id comes to be idle while its lists are empty
  pub drained : (place : Place) (n : ℕ) → HasAt (journals_of r place) n IsDrainedEntry → IsWhileDying r rank place.id (entry place n)
  pub emptied : (place : Place) (n : ℕ) → HasAt r.pool.items n (λ (e : PoolEntry). e ≡ Idle place.id) → IsWhileEmpty r rank place (turn n)
