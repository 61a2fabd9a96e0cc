-- SPDX-License-Identifier: GPL-2.0-only
-- The jobs of a number of nodes and groups, and the marks behind them.
use Rattle.std.specs.Prelude.{ℕ, ◌/◌, ◌%◌, ◌*◌, List, ◌++◌, map, replicate}
use Rattle.std.specs.List.{range_with_len}
use Rattle.shr_pool.specs.declared.items.SweepJob.{SweepJob}
use Rattle.shr_pool.specs.declared.items.SweepItem.{SweepItem}
use Rattle.shr_pool.specs.declared.items.SweepItem.TheVariants.{Walk, End}
use Rattle.shr_seats.specs.Weights.{total}

-- a group on a node
abbrev pub sweep_job : ℕ → ℕ → SweepJob
sweep_job group node = record { group = group; node = node }

-- the job with this number: by node, and then by group
abbrev pub job_at : ℕ → ℕ → SweepJob
job_at groups i = sweep_job (i % groups) (i / groups)

-- a job for each group on each node
abbrev pub table_jobs : ℕ → ℕ → List SweepJob
table_jobs nodes groups = map (job_at groups) (range_with_len 0 (nodes * groups))

-- 1 for a mark
abbrev pub is_end : SweepItem → ℕ
is_end (Walk j) = 0
is_end End = 1

-- how many marks there are
abbrev pub ends : List SweepItem → ℕ
ends l = total is_end l

-- what a job weighs, and a mark nothing
abbrev pub of_job : (SweepJob → ℕ) → SweepItem → ℕ
of_job h (Walk j) = h j
of_job h End = 0

-- the marks: one for each helper that there may be
abbrev pub most_helpers : ℕ
most_helpers = 64

-- the jobs, and behind them the marks
abbrev pub queue_line : ℕ → ℕ → List SweepItem
queue_line nodes groups = map Walk (table_jobs nodes groups) ++ replicate most_helpers End
