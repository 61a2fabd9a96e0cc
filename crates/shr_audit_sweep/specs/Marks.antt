-- SPDX-License-Identifier: GPL-2.0-only
-- Which groups were walked on which nodes. No public clause cites this.
use Rattle.std.specs.Prelude.{◌≡◌, ℕ, ◌+◌, ◌*◌, ◌<◌, ◌≤◌, ◌&&◌, ◌==◌, Bool, true, false, nat_lt, List, length, count_by, get_or}
use Rattle.shr_base.specs.declared.scripts.Script.{Script}
use Rattle.shr_base.specs.Walks.{WalkRecord}
use Rattle.shr_laws.specs.declared.report.Report.{Report}
use Rattle.shr_laws.specs.Parts.{parents_of}
use Rattle.shr_laws.specs.Swept.{all_sweep_walks, times_swept}

-- where a group on a node has its mark
abbrev pub job_index : ℕ → ℕ → ℕ → ℕ
job_index nodes group node = group * nodes + node

-- how many of these walks are of a group on a node
abbrev pub times_in : List WalkRecord → ℕ → ℕ → ℕ
times_in walks group node = count_by (λ (w : WalkRecord). (w.group == group) && (w.node == node)) walks

-- a walk is of one of so many groups, on one of so many nodes
abbrev pub IsSweptWithin : ℕ → ℕ → WalkRecord → Type 0
IsSweptWithin groups nodes w = (w.group < groups) × (w.node < nodes)

-- none is walked twice
abbrev pub AreWalkedOnce : List WalkRecord → Type 0
AreWalkedOnce walks = (group node : ℕ) → times_in walks group node ≤ 1

-- those are marked that one of these walks is of, and none is walked twice
pub record AreMarked (groups nodes : ℕ) (walks : List WalkRecord) (marks : List Bool) : Type 0 where
  pub size : length marks ≡ groups * nodes
  pub each : (group node : ℕ) → group < groups → node < nodes → get_or marks (job_index nodes group node) false ≡ nat_lt 0 (times_in walks group node)
  pub once : AreWalkedOnce walks

-- a group is marked on each of so many nodes
abbrev pub IsGroupMarked : ℕ → ℕ → List Bool → Type 0
IsGroupMarked nodes group marks = (node : ℕ) → node < nodes → get_or marks (job_index nodes group node) false ≡ true

-- no group is walked twice on a node by a sweep, and if it is whole, each is walked once
pub record AreSweptOnce (s : Script) (r : Report) (whole : Bool) : Type 0 where
  pub once : AreWalkedOnce (all_sweep_walks s r)
  pub all : whole ≡ true → (group node : ℕ) → group < length (parents_of s) → node < s.nodes → times_swept s r group node ≡ 1
