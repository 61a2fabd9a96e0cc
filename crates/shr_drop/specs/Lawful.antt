-- SPDX-License-Identifier: GPL-2.0-only
-- An isolation by the law: the entries that it made, and what they say.
use Rattle.std.specs.Prelude.{◌≡◌, ℕ, List, ◌++◌, map, Option, None, Some, slice_get}
use Rattle.shr_base.specs.declared.journals.Entry.{Entry}
use Rattle.shr_base.specs.declared.journals.Entry.TheVariants.{Scan}
use Rattle.shr_base.specs.declared.places.Serial.{Serial}
use Rattle.shr_base.specs.declared.replies.Found.{Found}
use Rattle.shr_base.specs.declared.replies.Reply.{Reply}
use Rattle.shr_base.specs.declared.replies.Reply.TheVariants as reply
use Rattle.shr_base.specs.declared.replies.Spent.{Spent}
use Rattle.shr_base.specs.declared.scripts.CacheDecl.{CacheDecl}
use Rattle.shr_model.specs.PlaceNumbers.{place_number}
use Rattle.shr_model.specs.Isolations.{ScanSeen, IsLawfulIsolation}
use Rattle.shr_core.specs.Parts.{Made}
use Rattle.shr_core.specs.Seats.{shape_of}
use Rattle.shr_node.specs.Gains.{KnowsClosed}
use Rattle.shr_walk.specs.Shown.{WornSeen}
use Rattle.shr_walk.specs.State.{WorkerState}
use Rattle.shr_walk.specs.declared.seats.Shared.{Shared}
use Rattle.shr_base.specs.declared.replies.Answered.{Answered}
use Rattle.shr_base.specs.declared.walks.Isolation.{Isolation}
use Rattle.shr_base.specs.declared.replies.IsolateEnd.{IsolateEnd}
use Rattle.shr_base.specs.declared.replies.IsolateEnd.TheVariants as ending
use Rattle.shr_drop.specs.Isolating.{found_place, visitor_of}
use Rattle.shr_drop.specs.Visiting.{Visitor}

-- an entry at its place
pub record Placed : Type 0 where
  pub place : ℕ
  pub entry : Entry

-- an entry that was made, with its place alone
abbrev pub placed : Made → Placed
placed m = record { place = m.place; entry = m.entry }

-- the entry of a scan of these visits, at their list
abbrev pub placed_scan : Visitor → ScanSeen → Placed
placed_scan i z = record { place = place_number i.place; entry = Scan i.by.worker i.walk z.asked z.policy z.visits z.freed z.stopped }

-- the entries made from s to t are these scans, in order
pub record AreScanned (i : Visitor) (scans : List ScanSeen) (s t : WorkerState) : Type 0 where
  pub made : List Made
  pub gained : t.core.traces.made ≡ s.core.traces.made ++ made
  pub entries : map placed made ≡ map (placed_scan i) scans

-- The entries made from s to t are the scans of a lawful isolation. If it ended closed the worker knows the list closed,
-- and what was told to be worn is so.
pub record IsolatesByLaw (x : Shared) (v : Visitor) (i : Isolation) (s t : WorkerState) : Type 0 where
  pub scans : List ScanSeen
  pub scanned : AreScanned v scans s t
  pub lawful : IsLawfulIsolation v.policy scans i
  pub closed : i.ending ≡ ending.Closed → KnowsClosed t.core (place_number v.place)
  pub worn : (why : Spent) → i.ending ≡ ending.Worn why → WornSeen (shape_of x.core) v.place why t

-- the answer has a lawful isolation, with this number among the worker's
pub record IsAnsweredByLaw (x : Shared) (by : Serial) (group node decl budget number : ℕ) (f : Found) (visits freed : ℕ) (e : IsolateEnd) (s t : WorkerState) : Type 0 where
  pub d : CacheDecl
  pub declared : slice_get x.script.caches.items decl ≡ Some d
  pub isolates : IsolatesByLaw x (visitor_of by number (found_place f node group) d) (record { by = by; place = found_place f node group; budget = budget; visits = visits; freed = freed; ending = e }) s t

-- if the cache was found, by the reply
abbrev pub LawfulFrom : Shared → Serial → ℕ → ℕ → ℕ → ℕ → ℕ → Found → Reply → WorkerState → WorkerState → Type 0
LawfulFrom x by group node decl budget number f (reply.Isolated visits freed e) s t = IsAnsweredByLaw x by group node decl budget number f visits freed e s t
LawfulFrom x by group node decl budget number f r s t = ⊥

-- by whether the cache was found: one that was refused made no entry
abbrev pub LawfulAs : Shared → Serial → ℕ → ℕ → ℕ → ℕ → ℕ → Option Found → Reply → WorkerState → WorkerState → Type 0
LawfulAs x by group node decl budget number None r s t = t.core.traces.made ≡ s.core.traces.made
LawfulAs x by group node decl budget number (Some f) r s t = LawfulFrom x by group node decl budget number f r s t

-- an isolation is lawful, by its answer and its number among the worker's
abbrev pub IsolatesLawfully : Shared → Serial → ℕ → ℕ → ℕ → ℕ → ℕ → Answered → WorkerState → WorkerState → Type 0
IsolatesLawfully x by group node decl budget number a s t = LawfulAs x by group node decl budget number a.found a.reply s t
