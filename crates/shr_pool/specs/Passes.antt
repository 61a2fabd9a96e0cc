-- SPDX-License-Identifier: GPL-2.0-only
-- The passes of a queue, and what they popped.
use Rattle.std.specs.Prelude.{◌≡◌, ◌≤◌, true, false, List, []}
use Rattle.crossbeam_queue.specs.Passes.{view, IsPassOf}
use Rattle.shr_seats.specs.Standing.{at_first}
use Rattle.shr_pool.specs.declared.items.SweepItem.{SweepItem}
use Rattle.shr_pool.specs.declared.jobs.JobQueue.{JobQueue}
use Rattle.shr_pool.specs.declared.jobs.JobPass.{JobPass}
use Rattle.shr_pool.specs.declared.view.PassView.{PassView}
use Rattle.shr_pool.specs.Lines.{ends, most_helpers}

-- what a pass knows
abbrev pub pass_view : JobPass → PassView
pass_view p = view p.pass

-- a pass of this queue, which was not joined away
pub record IsJobPass (jobs : JobQueue) (p : JobPass) : Type 0 where
  pub pass : IsPassOf jobs.ring p.pass
  pub here : (pass_view p).standing.gone ≡ false

-- the first pass of a queue of which nothing was handed out and nothing popped
pub record IsFilling (v : PassView) : Type 0 where
  pub first : v.standing.first ≡ true
  pub here : v.standing.gone ≡ false
  pub alone : v.standing.splits ≡ 0
  pub none : v.popped ≡ []

-- a pass that was handed out
abbrev pub IsHelper : PassView → Type 0
IsHelper v = v.standing.first ≡ false

-- a pass of this queue that was handed out
abbrev pub IsHandedOut : JobQueue → JobPass → Type 0
IsHandedOut jobs p = IsJobPass jobs p × IsHelper (pass_view p)

-- it met no mark yet, and a mark was pushed for each helper
pub record IsPopping (jobs : JobQueue) (p : JobPass) : Type 0 where
  pub pass : IsHandedOut jobs p
  pub unmet : ends (pass_view p).popped ≡ 0
  pub marked : most_helpers ≤ ends (pass_view p).pushed

-- the first pass of a queue into which these items were pushed
abbrev pub filling : List SweepItem → PassView
filling l = record { pushed = l; popped = []; standing = at_first }
