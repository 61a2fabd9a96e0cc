-- SPDX-License-Identifier: GPL-2.0-only
-- What is so of an isolation with the scans that were gathered of it. No public clause cites this.
use Rattle.std.specs.Prelude.{◌≡◌, ℕ, true, List, slice_get, Option, Some, option_and_then, Vec}
use Rattle.std.specs.declared.alloc.Global.{Global}
use Rattle.std.specs.Option.{IsSomeAnd}
use Rattle.shr_base.specs.declared.replies.IsolateEnd.TheVariants as isolate
use Rattle.shr_base.specs.declared.scripts.CacheDecl.{CacheDecl}
use Rattle.shr_base.specs.declared.scripts.Command.{Command}
use Rattle.shr_base.specs.declared.scripts.Script.{Script}
use Rattle.shr_base.specs.declared.walks.Isolation.{Isolation}
use Rattle.shr_model.specs.Commands.{decl_named}
use Rattle.shr_model.specs.Items.{is_closed}
use Rattle.shr_model.specs.Isolations.{IsLawfulIsolation, isolation_walk}
use Rattle.shr_laws.specs.declared.report.Report.{Report}
use Rattle.shr_laws.specs.Isolated.{EachIsolation, IsEndCaused, IsOfIsolation, cache_named, scans_seen}
use Rattle.shr_laws.specs.Parts.{EachEntry, journals_of}
use Rattle.shr_audit_formed.specs.Each.{EachItem}
use Rattle.shr_audit_isolations.specs.declared.gathered.Gathered.{Gathered}
use Rattle.shr_audit_isolations.specs.Gathered.{IsolationTold, told_of}

-- the cache that a command names
abbrev pub cache_of_command : Script → Command → Option CacheDecl
cache_of_command s c = option_and_then (slice_get s.caches.items) (decl_named c)

-- it is lawful with these scans, for the cache of its command
abbrev pub IsMadeRight : Script → IsolationTold → Type 0
IsMadeRight s t = IsSomeAnd (cache_named s t.isolation.by) (λ d. IsLawfulIsolation d.policy t.scans t.isolation)

-- an isolation of a worker found its list closed where it is closed, and is worn by a counter that was used up
abbrev pub IsEndRight : Script → Report → ℕ → Isolation → Type 0
IsEndRight s r worker i = (i.ending ≡ isolate.Closed → is_closed (journals_of r i.place) ≡ true) × IsEndCaused s r worker i.ending

-- both
abbrev pub IsToldRight : Script → Report → ℕ → IsolationTold → Type 0
IsToldRight s r worker t = IsMadeRight s t × IsEndRight s r worker t.isolation

-- the same of each isolation that was gathered
abbrev pub AreRowsRight : Script → Report → List (Vec Gathered Global) → Type 0
AreRowsRight s r table = (worker : ℕ) (row : Vec Gathered Global) → slice_get table worker ≡ Some row → EachItem (λ g. IsToldRight s r worker (told_of g)) row.items

-- all fields of the law but that on commands
pub record AreGatheredRight (s : Script) (r : Report) : Type 0 where
  pub each : EachIsolation r (λ worker k i. IsSomeAnd (cache_named s i.by) (λ d. IsLawfulIsolation d.policy (scans_seen worker (isolation_walk k) (journals_of r i.place)) i))
  pub ends : EachIsolation r (λ worker k i. IsEndRight s r worker i)
  pub scans : EachEntry r (λ place n e. IsOfIsolation r place e)
