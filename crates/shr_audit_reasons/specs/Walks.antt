-- SPDX-License-Identifier: GPL-2.0-only
-- What a walk, an attempt and an entry has its cause in.
use Rattle.std.specs.Prelude.{◌≡◌, ℕ, ⊤}
use Rattle.std.specs.Option.{IsSomeAnd}
use Rattle.shr_base.specs.declared.places.Serial.{Serial}
use Rattle.shr_base.specs.declared.journals.Entry.{Entry}
use Rattle.shr_base.specs.declared.journals.Entry.TheVariants.{Drained}
use Rattle.shr_base.specs.declared.journals.TreeEntry.TheVariants.{Begin}
use Rattle.shr_base.specs.declared.replies.Spent.TheVariants as spent
use Rattle.shr_base.specs.declared.scripts.Script.{Script}
use Rattle.shr_base.specs.Walks.{Attempt, WalkRecord}
use Rattle.shr_base.specs.declared.walks.Outcome.{Outcome}
use Rattle.shr_base.specs.declared.walks.Outcome.TheVariants as outcome
use Rattle.shr_base.specs.declared.walks.WalkAnswer.TheVariants as walk
use Rattle.shr_laws.specs.declared.report.Report.{Report}
use Rattle.shr_laws.specs.Causes.{HasDrained, IsSpent, StandsInTree}
use Rattle.shr_laws.specs.Parts.{reply_at}

-- a walk that found its group offline cites its Begin
abbrev pub CitesBegin : Report → WalkRecord → Type 0
CitesBegin r w = (entry : ℕ) → w.answer ≡ walk.Offline entry → StandsInTree r entry (Begin w.group)

-- an attempt at an id is worn only by lookups that were used up
abbrev pub IsOutcomeCaused : Script → Report → ℕ → ℕ → Outcome → Type 0
IsOutcomeCaused s r worker id (outcome.Worn seen) = IsSpent s r worker (spent.Lookups id seen)
IsOutcomeCaused s r worker id x = ⊤

-- what an attempt told of a worn counter has its cause
abbrev pub IsAttemptCaused : Script → Report → ℕ → Attempt → Type 0
IsAttemptCaused s r worker a = IsOutcomeCaused s r worker a.id a.outcome

-- the same, in the words of the law
abbrev pub IsWornRightly : Script → Report → ℕ → Attempt → Type 0
IsWornRightly s r worker a = (seen : ℕ) → a.outcome ≡ outcome.Worn seen → IsSpent s r worker (spent.Lookups a.id seen)

-- a Drained is of a command that drained
abbrev pub IsDrainedRightly : Report → Entry → Type 0
IsDrainedRightly r e = (by : Serial) (objects : ℕ) → e ≡ Drained by objects → IsSomeAnd (reply_at r by) HasDrained
