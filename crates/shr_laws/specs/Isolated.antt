-- SPDX-License-Identifier: GPL-2.0-only
-- Isolations: each visited its list once for each scan that it made, and told what it did.
use Rattle.std.specs.Prelude.{◌≡◌, ℕ, ◌-◌, ◌≤◌, true, ◌&&◌, ◌==◌, cond, List, [], ◌∷◌, filter, filter_map, slice_get, Option, Some, None, option_and_then, ⊤}
use Rattle.std.specs.Option.{IsSomeAnd}
use Rattle.shr_base.specs.declared.places.Serial.{Serial}
use Rattle.shr_base.specs.declared.places.Place.{Place}
use Rattle.shr_base.specs.declared.places.Target.{Target}
use Rattle.shr_base.specs.declared.journals.Entry.{Entry}
use Rattle.shr_base.specs.declared.journals.Entry.TheVariants.{Scan}
use Rattle.shr_base.specs.declared.replies.Found.{Found}
use Rattle.shr_base.specs.declared.replies.IsolateEnd.{IsolateEnd}
use Rattle.shr_base.specs.declared.replies.IsolateEnd.TheVariants as isolate
use Rattle.shr_base.specs.declared.replies.Reply.{Reply}
use Rattle.shr_base.specs.declared.replies.Reply.TheVariants as reply
use Rattle.shr_base.specs.declared.replies.Answered.{Answered}
use Rattle.shr_base.specs.declared.scripts.CacheDecl.{CacheDecl}
use Rattle.shr_base.specs.declared.scripts.Command.{Command}
use Rattle.shr_base.specs.declared.scripts.Command.TheVariants.{Isolate}
use Rattle.shr_base.specs.declared.scripts.Script.{Script}
use Rattle.shr_base.specs.declared.walks.Isolation.{Isolation}
use Rattle.shr_model.specs.Commands.{is_serial, decl_named}
use Rattle.shr_model.specs.Items.{is_closed}
use Rattle.shr_model.specs.Isolations.{first_isolation, isolation_walk, ScanSeen, IsLawfulIsolation}
use Rattle.shr_laws.specs.declared.report.Report.{Report}
use Rattle.shr_laws.specs.Parts.{command_at, journals_of, isolations_of, isolation_at, EachAnswer, EachEntry}
use Rattle.shr_laws.specs.Causes.{IsSpent}

-- the isolations of a command
abbrev pub isolations_by : Report → Serial → List Isolation
isolations_by r by = filter (λ (i : Isolation). is_serial by i.by) (isolations_of r by.worker)

-- P of each isolation, with the numbers of its worker and its own
abbrev pub EachIsolation : Report → (ℕ → ℕ → Isolation → Type 0) → Type 0
EachIsolation r P = (worker k : ℕ) (i : Isolation) → isolation_at r worker k ≡ Some i → P worker k i

-- an entry, if it is a Scan of this walk of this worker
abbrev pub scan_seen : ℕ → ℕ → Entry → Option ScanSeen
scan_seen worker walk (Scan w n asked policy visits freed stopped) =
    cond ((w == worker) && (n == walk)) (Some (record { asked = asked; policy = policy; visits = visits; freed = freed; stopped = stopped })) None
scan_seen worker walk e = None

-- the Scan entries of this walk of this worker in a journal, in order
abbrev pub scans_seen : ℕ → ℕ → List Entry → List ScanSeen
scans_seen worker walk entries = filter_map (scan_seen worker walk) entries

-- the cache that the command with this serial names
abbrev pub cache_named : Script → Serial → Option CacheDecl
cache_named s by = option_and_then (λ c. option_and_then (slice_get s.caches.items) (decl_named c)) (command_at s by)

-- the counter by which an isolation is worn was used up
abbrev pub IsEndCaused : Script → Report → ℕ → IsolateEnd → Type 0
IsEndCaused s r worker (isolate.Worn x) = IsSpent s r worker x
IsEndCaused s r worker e = ⊤

-- a Scan entry at a place whose walk is an isolation's is of one that is there, at that place
abbrev pub IsOfIsolation : Report → Place → Entry → Type 0
IsOfIsolation r place (Scan worker n asked policy visits freed stopped) = first_isolation ≤ n → IsSomeAnd (isolation_at r worker (n - first_isolation)) (λ i. i.place ≡ place)
IsOfIsolation r place e = ⊤

-- the isolation of a command that found its cache and was answered so
abbrev pub isolation_told : Serial → Target → ℕ → Option Found → Reply → List Isolation
isolation_told by at budget (Some f) (reply.Isolated visits freed ending) =
    record { by = by; place = record { id = f.id; node = at.node; group = at.group }; budget = budget; visits = visits; freed = freed; ending = ending } ∷ []
isolation_told by at budget found x = []

-- the isolations of a command by its answer
abbrev pub isolations_told : Serial → Command → Answered → List Isolation
isolations_told by (Isolate at budget) a = isolation_told by at budget a.found a.reply
isolations_told by c a = []

-- each isolation is lawful, each command has those that its answer tells, and no other scan was made
pub record AreIsolationsLawful (s : Script) (r : Report) : Type 0 where
  pub each : EachIsolation r (λ worker k i. IsSomeAnd (cache_named s i.by) (λ d. IsLawfulIsolation d.policy (scans_seen worker (isolation_walk k) (journals_of r i.place)) i))
  -- one that found its list closed did so where it is closed, and one that is worn is so by a counter that was used up
  pub closed : EachIsolation r (λ worker k i. i.ending ≡ isolate.Closed → is_closed (journals_of r i.place) ≡ true)
  pub worn : EachIsolation r (λ worker k i. IsEndCaused s r worker i.ending)
  pub scans : EachEntry r (λ place n e. IsOfIsolation r place e)
  pub commands : EachAnswer s r (λ by c a. isolations_by r by ≡ isolations_told by c a)
