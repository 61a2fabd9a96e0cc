-- SPDX-License-Identifier: GPL-2.0-only
-- The walks of a sweep, and the jobs that the workers' passes popped for them.
use Rattle.std.specs.Prelude.{◌≡◌, ℕ, ◌<◌, List, [], ◌∷◌, ◌++◌, length, map, flat_map, Some, None, slice_get}
use Rattle.std.specs.List.{range_with_len}
use Rattle.shr_base.specs.declared.replies.Reply.{Reply}
use Rattle.shr_base.specs.declared.scripts.Script.{Script}
use Rattle.shr_base.specs.declared.scripts.Sweep.{Sweep}
use Rattle.shr_base.specs.Walks.{WalkRecord}
use Rattle.shr_pool.specs.declared.items.SweepItem.{SweepItem}
use Rattle.shr_pool.specs.declared.items.SweepItem.TheVariants.{Walk, End}
use Rattle.shr_pool.specs.declared.items.SweepJob.{SweepJob}
use Rattle.shr_pool.specs.declared.view.PassView.{PassView}
use Rattle.shr_pool.specs.Lines.{sweep_job}
use Rattle.shr_pool.specs.Worked.{AreEachOnce}
use Rattle.shr_laws.specs.Parts.{parents_of}
use Rattle.shr_laws.specs.Swept.{IsSweptOut}
use Rattle.shr_lawful.specs.Steps.{Step, steps_of}

-- the group and the node of a walk
abbrev pub job_walked : WalkRecord → SweepJob
job_walked w = sweep_job w.group w.node

-- A helper's walks are of the first jobs that its pass popped, in order. Where it was answered that no job was left, they
-- are of all of them, and behind these it popped its mark.
pub record IsOfPops (popped : List SweepItem) (walks : List WalkRecord) (answer : Reply) : Type 0 where
  pub rest : List SweepItem
  pub first : popped ≡ map Walk (map job_walked walks) ++ rest
  pub all : IsSweptOut answer → rest ≡ End ∷ []

-- what the passes of so many workers popped
abbrev pub all_popped : (ℕ → List SweepItem) → ℕ → List SweepItem
all_popped popped workers = flat_map popped (range_with_len 0 workers)

-- of these items no job was popped twice, each is of a group on a node of the script, and if a mark was popped each job was
pub record ArePoppedOnce (s : Script) (popped : List SweepItem) : Type 0 where
  pub view : PassView
  pub same : view.popped ≡ popped
  pub once : AreEachOnce s.nodes (length (parents_of s)) view

-- the workers' parts of the sweep of a script that has one
pub record AreSwept (s : Script) (workers : List (List Step)) : Type 0 where
  pub popped : ℕ → List SweepItem
  pub walked : (worker k : ℕ) (x : Step) → slice_get (steps_of workers worker) k ≡ Some x → x.command ≡ None → IsOfPops (popped worker) x.work.walks x.answered.reply
  pub some : (z : Sweep) → s.sweep ≡ Some z → 0 < length s.workers.items
  pub once : (z : Sweep) → s.sweep ≡ Some z → ArePoppedOnce s (all_popped popped (length s.workers.items))
