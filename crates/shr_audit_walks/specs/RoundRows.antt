-- SPDX-License-Identifier: GPL-2.0-only
-- Walks that were made, against those that were due. No public clause cites this.
use Rattle.std.specs.Prelude.{◌≡◌, ℕ, ◌≤◌, Bool, false, List, [], ◌∷◌, length, map, flat_map, drop, ⊤}
use Rattle.std.specs.List.{range_with_len}
use Rattle.shr_base.specs.Walks.{WalkRecord}
use Rattle.shr_model.specs.Walks.{Job, job, job_of}
use Rattle.shr_audit_walks.specs.declared.round_rows.Control.{Control}

-- what walks were of
abbrev pub jobs_made : List WalkRecord → List Job
jobs_made walks = map job_of walks

-- the walk over a group that is told so
abbrev pub job_with : Control → ℕ → Job
job_with control group = job group control.node control.priority control.nofs

-- the walks over groups in a row
abbrev pub jobs_over : Control → List ℕ → List Job
jobs_over control groups = map (job_with control) groups

-- how a walk of a round is told
abbrev pub round_control : ℕ → ℕ → Control
round_control priority node = record { node = node; priority = priority; nofs = false }

-- the walks of a round over these groups: on each node in rising order
abbrev pub round_over : ℕ → ℕ → List ℕ → List Job
round_over nodes priority groups = flat_map (λ node. jobs_over (round_control priority node) groups) (range_with_len 0 nodes)

-- What was made begins with what was due. Where not the whole of it need be there, it may end within.
abbrev pub BeginsAsDue : Bool → List Job → List Job → Type 0
BeginsAsDue whole [] made = ⊤
BeginsAsDue whole (j ∷ js) [] = whole ≡ false
BeginsAsDue whole (j ∷ js) (m ∷ ms) = (m ≡ j) × BeginsAsDue whole js ms

-- it does, and this is behind it
pub record IsBehind (whole : Bool) (due made rest : List Job) : Type 0 where
  pub begins : BeginsAsDue whole due made
  pub behind : rest ≡ drop (length due) made

-- it doesn't
abbrev pub IsNotBegun : Bool → List Job → List Job → Type 0
IsNotBegun whole due made = BeginsAsDue whole due made → ⊥

-- what was made is what was due, or where not the whole of it need be there, the first of it
pub record IsMadeAsDue (whole : Bool) (due made : List Job) : Type 0 where
  pub begins : BeginsAsDue whole due made
  pub few : length made ≤ length due
