-- SPDX-License-Identifier: GPL-2.0-only
-- What an isolation did.
use Rattle.std.specs.Prelude.{◌≡◌, ℕ, ◌<◌, List, [], ◌∷◌, length, map, flat_map, take, slice_get, Some, AllPairs, option_and_then}
use Rattle.shr_base.specs.declared.replies.IsolateEnd.TheVariants as ending
use Rattle.shr_base.specs.declared.replies.Spent.{Spent}
use Rattle.shr_base.specs.declared.scripts.CacheDecl.{CacheDecl}
use Rattle.shr_base.specs.declared.scripts.Script.{Script}
use Rattle.shr_base.specs.declared.walks.Isolation.{Isolation}
use Rattle.shr_model.specs.Commands.{decl_named}
use Rattle.shr_model.specs.PlaceNumbers.{place_number}
use Rattle.shr_model.specs.Isolations.{ScanSeen, IsLawfulIsolation}
use Rattle.shr_core.specs.Parts.{Made}
use Rattle.shr_node.specs.Gains.{KnowsClosed}
use Rattle.shr_laws.specs.Parts.{IsThere}
use Rattle.shr_drop.specs.Isolating.{visitor_of}
use Rattle.shr_drop.specs.Lawful.{placed, placed_scan}
use Rattle.shr_lawful.specs.Steps.{Step}
use Rattle.shr_lawful.specs.Entries.{isolations_asked}
use Rattle.shr_lawful.specs.Worn.{IsWornBy}

-- the isolation that a command's answer tells of, if it does
abbrev pub isolated_in : Step → List Isolation
isolated_in x = isolations_asked x.by x.command x.answered

-- how many isolations a worker made before its command with this number
abbrev pub isolated_before : List Step → ℕ → ℕ
isolated_before mine k = length (flat_map isolated_in (take k mine))

-- The isolation with this number among its worker's: all entries that the command made are its scans, in order.
pub record DidIsolation (s : Script) (x : Step) (number : ℕ) (i : Isolation) : Type 0 where
  pub there : IsThere s i.place
  pub d : CacheDecl
  pub cache : option_and_then (slice_get s.caches.items) (option_and_then decl_named x.command) ≡ Some d
  pub scans : List ScanSeen
  pub made : map placed x.work.core.made ≡ map (placed_scan (visitor_of x.by number i.place d)) scans
  pub rise : AllPairs (λ (m n : Made). m.number < n.number) x.work.core.made
  pub lawful : IsLawfulIsolation d.policy scans i
  pub closed : i.ending ≡ ending.Closed → KnowsClosed x.after.core (place_number i.place)
  pub worn : (why : Spent) → i.ending ≡ ending.Worn why → IsWornBy s x why

-- what a command did whose answer tells of an isolation, by how many its worker had made before
abbrev pub DidIsolations : Script → Step → ℕ → Type 0
DidIsolations s x number = (i : Isolation) → isolated_in x ≡ i ∷ [] → DidIsolation s x number i
