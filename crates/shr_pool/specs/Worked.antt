-- SPDX-License-Identifier: GPL-2.0-only
-- What came of a sweep's jobs, by what its passes popped.
use Rattle.std.specs.Prelude.{◌≡◌, ℕ, ◌<◌, ◌≤◌, ◌==◌, ◌&&◌, cond, List, ◌++◌}
use Rattle.shr_seats.specs.Weights.{total}
use Rattle.shr_pool.specs.declared.items.SweepItem.{SweepItem}
use Rattle.shr_pool.specs.declared.items.SweepJob.{SweepJob}
use Rattle.shr_pool.specs.declared.view.PassView.{PassView}
use Rattle.shr_pool.specs.Lines.{ends, of_job, table_jobs}

-- what was pushed is what was popped, in some order, each once, and then what is left
pub record ArePopped (v : PassView) : Type 0 where
  pub gone : List SweepItem
  pub left : List SweepItem
  pub line : v.pushed ≡ gone ++ left
  pub same : (h : SweepItem → ℕ) → total h gone ≡ total h v.popped

-- however the jobs of these nodes and groups are weighed, those that were popped weigh no more than
-- all of them, and where a mark was popped they weigh the same
pub record AreWorked (nodes groups : ℕ) (v : PassView) : Type 0 where
  pub at_most : (h : SweepJob → ℕ) → total (of_job h) v.popped ≤ total h (table_jobs nodes groups)
  pub all : 0 < ends v.popped → (h : SweepJob → ℕ) → total (of_job h) v.popped ≡ total h (table_jobs nodes groups)

-- 1 for this job, and 0 for another
abbrev pub only_job : SweepJob → SweepJob → ℕ
only_job j x = cond ((x.group == j.group) && (x.node == j.node)) 1 0

-- how often a job was popped
abbrev pub times_popped : SweepJob → PassView → ℕ
times_popped j v = total (of_job (only_job j)) v.popped

-- it is the job of one of so many groups on one of so many nodes
pub record IsTableJob (nodes groups : ℕ) (j : SweepJob) : Type 0 where
  pub node : j.node < nodes
  pub group : j.group < groups

-- no job twice, no other job, and where a mark was popped each job once
pub record AreEachOnce (nodes groups : ℕ) (v : PassView) : Type 0 where
  pub once : (j : SweepJob) → times_popped j v ≤ 1
  pub known : (j : SweepJob) → 0 < times_popped j v → IsTableJob nodes groups j
  pub all : 0 < ends v.popped → (j : SweepJob) → IsTableJob nodes groups j → times_popped j v ≡ 1
