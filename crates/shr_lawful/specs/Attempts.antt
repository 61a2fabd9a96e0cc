-- SPDX-License-Identifier: GPL-2.0-only
-- What an attempt of a command's walk met and did.
use Rattle.std.specs.Prelude.{◌≡◌, ℕ, ◌-◌, ◌<◌, ◌≤◌, ◌^◌, ◌==◌, true, cond, List, filter_map, slice_get, Option, Some, None}
use Rattle.std.specs.Option.{is_some}
use Rattle.shr_base.specs.declared.ends.LookupWord.{LookupWord}
use Rattle.shr_base.specs.declared.places.Place.{Place}
use Rattle.shr_base.specs.declared.scripts.CacheDecl.{CacheDecl}
use Rattle.shr_base.specs.declared.scripts.Script.{Script}
use Rattle.shr_base.specs.Walks.{Attempt, WalkRecord}
use Rattle.shr_base.specs.declared.walks.Ending.TheVariants as ending
use Rattle.shr_base.specs.declared.walks.Outcome.TheVariants as outcome
use Rattle.shr_base.specs.declared.walks.PassRecord.{PassRecord}
use Rattle.shr_base.specs.declared.replies.Spent.{Spent}
use Rattle.shr_model.specs.Attempts.{number_of, is_held, pass_of}
use Rattle.shr_model.specs.PlaceNumbers.{place_number}
use Rattle.shr_model.specs.Scans.{ScanMade, scan_by}
use Rattle.shr_model.specs.Walks.{place_in}
use Rattle.shr_core.specs.Parts.{Made}
use Rattle.shr_node.specs.Gains.{KnowsClosed}
use Rattle.shr_laws.specs.LawfulWalk.{IsOutcomeOf, AreScansOf, IsStopped}
use Rattle.shr_lawful.specs.Steps.{Step, IsAmong}
use Rattle.shr_lawful.specs.Worn.{IsWornBy}

-- the Scan entries that a walk made at the place with this number
abbrev pub scan_made : ℕ → ℕ → ℕ → Made → Option ScanMade
scan_made k worker walk m = cond (m.place == k) (scan_by worker walk m.number m.entry) None

-- those among all entries that a command made, in order
abbrev pub scans_made : ℕ → ℕ → ℕ → List Made → List ScanMade
scans_made k worker walk made = filter_map (scan_made k worker walk) made

-- a pass of a cache: its Scan entries, where it stops, and what it found closed or used up
pub record DidPass (s : Script) (x : Step) (n : ℕ) (w : WalkRecord) (place : Place) (d : CacheDecl) (p : PassRecord) : Type 0 where
  pub scans : AreScansOf w.priority d p (scans_made (place_number place) x.by.worker n x.work.core.made)
  pub stops : IsStopped w d p
  pub closed : 0 < p.closed → KnowsClosed x.after.core (place_number place)
  pub worn : (spent : Spent) → p.ending ≡ ending.Worn spent → IsWornBy s x spent

-- the cache that a held attempt met, and what it did by its declaration
pub record HasMetCache (s : Script) (x : Step) (n : ℕ) (w : WalkRecord) (a : Attempt) (number : ℕ) : Type 0 where
  pub decl : ℕ
  pub tried : IsAmong (record { id = a.id; number = number; held = Some decl }) x.work.core.attempts
  pub cache : CacheDecl
  pub declared : slice_get s.caches.items decl ≡ Some cache
  pub kind : IsOutcomeOf w.priority cache a.outcome
  pub pass : (p : PassRecord) → pass_of a.outcome ≡ Some p → DidPass s x n w (place_in w a.id) cache p

-- an attempt of the walk with this number
pub record DidAttempt (s : Script) (x : Step) (n : ℕ) (w : WalkRecord) (a : Attempt) : Type 0 where
  pub id : a.id < s.ids
  -- its lookup was held exactly where its outcome is one of a held cache
  pub tried : (number : ℕ) → number_of a.outcome ≡ Some number
      → (held : Option ℕ) × IsAmong (record { id = a.id; number = number; held = held }) x.work.core.attempts × (is_held a.outcome ≡ is_some held)
  pub held : (number : ℕ) → number_of a.outcome ≡ Some number → is_held a.outcome ≡ true → HasMetCache s x n w a number
  -- a load showed that its lookups are used up
  pub worn : (seen : ℕ) → a.outcome ≡ outcome.Worn seen
      → (word : LookupWord) × IsAmong (record { id = a.id; word = word }) x.work.core.loaded × (word.lookups ≡ seen) × (2 ^ 32 - 256 ≤ seen)
