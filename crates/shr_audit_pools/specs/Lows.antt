-- SPDX-License-Identifier: GPL-2.0-only
-- The least number that an entry or a version may have at each place. No public clause cites this.
use Rattle.std.specs.Prelude.{◌≡◌, ℕ, ◌<◌, ◌≤◌, ◌↔◌, nat_eq, List, flat_map, length, slice_get, take, Option, Some, None, option_and_then, option_map}
use Rattle.std.specs.List.{AllByRecursion}
use Rattle.std.specs.declared.hash.FoldHasher.{FoldHasher}
use Rattle.std.specs.declared.hash.BuildHasherDefault.{BuildHasherDefault}
use Rattle.std.specs.HashMap.{get, HashMap}
use Rattle.shr_base.specs.declared.ends.WorkerPart.{WorkerPart}
use Rattle.shr_base.specs.declared.places.At.{At}
use Rattle.shr_base.specs.declared.places.Place.{Place}
use Rattle.shr_base.specs.declared.replies.Answered.{Answered}
use Rattle.shr_base.specs.declared.replies.Reply.{Reply}
use Rattle.shr_base.specs.declared.replies.Reply.TheVariants as reply
use Rattle.shr_base.specs.declared.scripts.Script.{Script}
use Rattle.shr_base.specs.declared.walks.PlainTry.{PlainTry}
use Rattle.shr_base.specs.declared.walks.PlainWalk.{PlainWalk}
use Rattle.shr_audit_formed.specs.Each.{EachItem}
use Rattle.shr_laws.specs.Parts.{at}
use Rattle.shr_laws.specs.Pools.{plain_versions, version_in}
use Rattle.shr_laws.specs.UnitParts.{home_in, units_place_at, pool_place, units_cited}
use Rattle.shr_audit_pools.specs.Places.{pool_key}

-- a table of numbers by the numbers of places
abbrev pub Lows : Type 0
Lows = HashMap ℕ ℕ (BuildHasherDefault FoldHasher)

-- a number that was kept, or 0
abbrev pub kept_as : Option ℕ → ℕ
kept_as None = 0
kept_as (Some low) = low

-- that of a place by its number
abbrev pub low_at : Lows → ℕ → ℕ
low_at t key = kept_as (get nat_eq t key)

-- none is kept
abbrev pub HasNoLows : Lows → Type 0
HasNoLows t = (key : ℕ) → get nat_eq t key ≡ None

-- a number may be as low as before, at this place not below `to`
abbrev pub RaisesLow : ℕ → ℕ → Lows → Lows → Type 0
RaisesLow key to old new = (q m : ℕ) → (low_at new q ≤ m) ↔ ((low_at old q ≤ m) × (q ≡ key → to ≤ m))

-- ---- what replies cite

-- the entry that the reply with this number cites
abbrev pub cited_at_reply : List Answered → ℕ → Option At
cited_at_reply answers k = option_and_then units_cited (option_map (λ (a : Answered). a.reply) (slice_get answers k))

-- the entry that a reply cites, or that it would have been
abbrev pub cited_or_next : Reply → Option At
cited_or_next (reply.Full pool node entries free) = Some (at (units_place_at pool node) entries)
cited_or_next x = units_cited x

-- the entries that the first so many replies cite at a place are below this number
abbrev pub AreCitedBelow : List Answered → ℕ → Place → ℕ → Type 0
AreCitedBelow answers count place m = (k n : ℕ) → k < count → cited_at_reply answers k ≡ Some (at place n) → n < m

-- those that replies before this one cite are below its own
abbrev pub IsAbove : List Answered → ℕ → Answered → Type 0
IsAbove answers k a = (pool node n : ℕ) → cited_or_next a.reply ≡ Some (at (units_place_at pool node) n) → AreCitedBelow answers k (units_place_at pool node) n

-- so it is with each reply of a worker
abbrev pub AreCitesRising : List Answered → Type 0
AreCitesRising answers = (k : ℕ) (a : Answered) → slice_get answers k ≡ Some a → IsAbove answers k a

-- and with those of all workers
abbrev pub AreAllRising : List WorkerPart → Type 0
AreAllRising parts = (worker : ℕ) (part : WorkerPart) → slice_get parts worker ≡ Some part → AreCitesRising part.answers.items

-- a number may be as low as it is above what the first so many replies cite
abbrev pub AreLows : List Answered → ℕ → Lows → Type 0
AreLows answers count t = (pool node m : ℕ) → node < 256 → (low_at t (pool_key pool node) ≤ m) ↔ AreCitedBelow answers count (units_place_at pool node) m

-- the number of the entry that a reply asks for isn't too low
abbrev pub IsHigh : Lows → Reply → Type 0
IsHigh t x = (pool node n : ℕ) → node < 256 → cited_or_next x ≡ Some (at (units_place_at pool node) n) → low_at t (pool_key pool node) ≤ n

-- the node of the entry that a reply asks for has the range of its type
abbrev pub IsSmall : Reply → Type 0
IsSmall x = (pool node n : ℕ) → cited_or_next x ≡ Some (at (units_place_at pool node) n) → node < 256

-- a number may be as low as before, and above what a reply cites
abbrev pub NotesUnitsReply : Reply → Lows → Lows → Type 0
NotesUnitsReply x old new = (pool node m : ℕ) → node < 256
    → (low_at new (pool_key pool node) ≤ m) ↔ ((low_at old (pool_key pool node) ≤ m) × ((n : ℕ) → units_cited x ≡ Some (at (units_place_at pool node) n) → n < m))

-- and above what the replies of these numbers cite
abbrev pub NotesReplies : List Answered → ℕ → ℕ → Lows → Lows → Type 0
NotesReplies answers from to old new = (pool node m : ℕ) → node < 256
    → (low_at new (pool_key pool node) ≤ m) ↔ ((low_at old (pool_key pool node) ≤ m) × ((k n : ℕ) → from ≤ k → k < to → cited_at_reply answers k ≡ Some (at (units_place_at pool node) n) → n < m))

-- ---- the versions of walks

-- the versions that these walks counted at a place are up to this number
abbrev pub AreUpTo : Script → List PlainWalk → Place → ℕ → Type 0
AreUpTo s walks place m = AllByRecursion (λ v. v ≤ m) (flat_map (plain_versions s place) walks)

-- the version of a try isn't too low at its place
abbrev pub IsTryHigh : Script → Lows → PlainWalk → ℕ → PlainTry → Type 0
IsTryHigh s t w pool x = low_at t (pool_key pool (home_in (slice_get s.pools.items pool) w.node)) ≤ version_in x

-- that of no try is
abbrev pub IsWalkHigh : Script → Lows → PlainWalk → Type 0
IsWalkHigh s t w = (pool : ℕ) (x : PlainTry) → slice_get w.tries.items pool ≡ Some x → IsTryHigh s t w pool x

-- a number may be as low as before, and as the versions of the first so many tries of a walk
abbrev pub NotesTries : Script → PlainWalk → ℕ → Lows → Lows → Type 0
NotesTries s w count old new = (pool node m : ℕ) → node < 256
    → (low_at new (pool_key pool node) ≤ m) ↔ ((low_at old (pool_key pool node) ≤ m) × ((x : PlainTry) → pool < count → slice_get w.tries.items pool ≡ Some x → home_in (slice_get s.pools.items pool) w.node ≡ node → version_in x ≤ m))

-- a number may be as low as it is above what the first so many replies cite, and as the versions of these walks
abbrev pub AreLowsOf : Script → List Answered → ℕ → List PlainWalk → Lows → Type 0
AreLowsOf s answers count walks t = (pool node m : ℕ) → node < 256 → (low_at t (pool_key pool node) ≤ m) ↔ (AreCitedBelow answers count (units_place_at pool node) m × AreUpTo s walks (units_place_at pool node) m)

-- each version of a walk is above what earlier replies cite at its place, and none below those of these walks before
abbrev pub IsVersed : Script → List Answered → List PlainWalk → PlainWalk → Type 0
IsVersed s answers before w = (pool : ℕ) (x : PlainTry) → slice_get w.tries.items pool ≡ Some x
    → AreCitedBelow answers w.by.command (pool_place s pool w.node) (version_in x) × AreUpTo s before (pool_place s pool w.node) (version_in x)

-- so it is with each walk of a worker
abbrev pub IsPartVersed : Script → WorkerPart → Type 0
IsPartVersed s part = (n : ℕ) (w : PlainWalk) → slice_get part.plain.items n ≡ Some w → IsVersed s part.answers.items (take n part.plain.items) w

-- and with the walks of all workers
abbrev pub AreAllVersed : Script → List WorkerPart → Type 0
AreAllVersed s parts = (worker : ℕ) (part : WorkerPart) → slice_get parts worker ≡ Some part → IsPartVersed s part

-- no walk has more tries than there are numbers of pools
abbrev pub HaveFewTries : List WorkerPart → Type 0
HaveFewTries parts = EachItem (λ (part : WorkerPart). EachItem (λ (w : PlainWalk). length w.tries.items ≤ 256) part.plain.items) parts
