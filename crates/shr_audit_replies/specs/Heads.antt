-- SPDX-License-Identifier: GPL-2.0-only
-- What stands at the head of a report, and how many answers there are.
use Rattle.std.specs.Prelude.{◌≡◌, ℕ, ◌+◌, ◌∷◌, length, map, codes, Some}
use Rattle.shr_base.specs.declared.replies.Answered.{Answered}
use Rattle.shr_base.specs.declared.scripts.Script.{Script}
use Rattle.shr_laws.specs.declared.report.Report.{Report}
use Rattle.shr_laws.specs.Parts.{answer_at, answers_of, commands_of, sweeps_of}
use Rattle.shr_laws.specs.Swept.{IsSweepReply, sweep_serial}

-- the report has the version and the sizes of the script
pub record HasSizes (s : Script) (r : Report) : Type 0 where
  pub version : r.version ≡ s.version
  pub nodes : r.nodes ≡ s.nodes
  pub ids : r.ids ≡ s.ids

-- it has the paths of its groups, that of the root first
abbrev pub HasPaths : Script → Report → Type 0
HasPaths s r = r.groups.items ≡ codes "/" ∷ map (λ g. g.path) s.groups.items

-- it has the names of its caches
abbrev pub HasNames : Script → Report → Type 0
HasNames s r = r.caches.items ≡ map (λ c. c.name) s.caches.items

-- it has the names of its pools
abbrev pub HasPoolNames : Script → Report → Type 0
HasPoolNames s r = r.pools.items ≡ map (λ p. p.name) s.pools.items

-- a worker has one answer per command, and behind them one to the sweep of a script that has one
abbrev pub HasAnswers : Script → Report → ℕ → Type 0
HasAnswers s r worker = length (answers_of r worker) ≡ length (commands_of s worker) + sweeps_of s worker

-- each worker has
abbrev pub AllHaveAnswers : Script → Report → Type 0
AllHaveAnswers s r = (worker : ℕ) → HasAnswers s r worker

-- the answer behind those to a worker's commands, if there is one, is to a sweep
abbrev pub IsLastSwept : Script → Report → ℕ → Type 0
IsLastSwept s r worker = (a : Answered) → answer_at r (sweep_serial s worker) ≡ Some a → IsSweepReply a.reply

-- so is that of each worker
abbrev pub AreLastSwept : Script → Report → Type 0
AreLastSwept s r = (worker : ℕ) → IsLastSwept s r worker
