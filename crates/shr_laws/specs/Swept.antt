-- SPDX-License-Identifier: GPL-2.0-only
-- A sweep: together the workers walk each group on each node, each at most once.
use Rattle.std.specs.Prelude.{◌≡◌, ℕ, ◌<◌, ◌≤◌, ◌&&◌, ◌==◌, List, length, count_by, flat_map, sum_by, Some, None, ⊤}
use Rattle.std.specs.List.{AllByRecursion, range_with_len}
use Rattle.std.specs.Option.{IsSomeAnd}
use Rattle.shr_base.specs.declared.places.Serial.{Serial}
use Rattle.shr_base.specs.declared.replies.Answered.{Answered}
use Rattle.shr_base.specs.declared.replies.Reply.{Reply}
use Rattle.shr_base.specs.declared.replies.Reply.TheVariants as reply
use Rattle.shr_base.specs.declared.scripts.Script.{Script}
use Rattle.shr_base.specs.declared.scripts.Sweep.{Sweep}
use Rattle.shr_base.specs.Walks.{WalkRecord}
use Rattle.shr_model.specs.Walks.{freed_told}
use Rattle.shr_laws.specs.declared.report.Report.{Report}
use Rattle.shr_laws.specs.Parts.{parents_of, serial_of, commands_of, answer_at, reply_at, walks_by}

-- the serial of a worker's last answer, which is behind those to its commands
abbrev pub sweep_serial : Script → ℕ → Serial
sweep_serial s worker = serial_of worker (length (commands_of s worker))

-- the walks that a worker made for the sweep
abbrev pub sweep_walks : Script → Report → ℕ → List WalkRecord
sweep_walks s r worker = walks_by r (sweep_serial s worker)

-- those of all workers
abbrev pub all_sweep_walks : Script → Report → List WalkRecord
all_sweep_walks s r = flat_map (sweep_walks s r) (range_with_len 0 (length s.workers.items))

-- how often the sweep walked a group on a node
abbrev pub times_swept : Script → Report → ℕ → ℕ → ℕ
times_swept s r group node = count_by (λ (w : WalkRecord). (w.group == group) && (w.node == node)) (all_sweep_walks s r)

-- what a worker may be answered to the sweep: that no job was left, or want of memory
abbrev pub IsSweepReply : Reply → Type 0
IsSweepReply (reply.Swept jobs freed) = ⊤
IsSweepReply (reply.WalkMemory freed) = ⊤
IsSweepReply x = ⊥

-- no job was left
abbrev pub IsSweptOut : Reply → Type 0
IsSweptOut (reply.Swept jobs freed) = ⊤
IsSweptOut x = ⊥

-- how much a worker told that it freed in the sweep
abbrev pub freed_swept : Reply → ℕ
freed_swept (reply.Swept jobs freed) = freed
freed_swept (reply.WalkMemory freed) = freed
freed_swept x = 0

-- a walk is of a group on a node of the script, with the priority and the kind of its sweep
pub record IsSweepWalk (s : Script) (z : Sweep) (w : WalkRecord) : Type 0 where
  pub group : w.group < length (parents_of s)
  pub node : w.node < s.nodes
  pub priority : w.priority ≡ z.priority
  pub nofs : w.nofs ≡ z.nofs

-- the last answer of a worker says how many walks it made for the sweep and what they freed
pub record IsSwept (s : Script) (z : Sweep) (walks : List WalkRecord) (a : Answered) : Type 0 where
  pub alone : a.found ≡ None
  pub kind : IsSweepReply a.reply
  pub walks_are : AllByRecursion (IsSweepWalk s z) walks
  pub jobs : (jobs freed : ℕ) → a.reply ≡ reply.Swept jobs freed → jobs ≡ length walks
  pub freed : freed_swept a.reply ≡ sum_by (λ (w : WalkRecord). freed_told w.answer) walks

-- each worker of a script with this sweep has its last answer; over all workers no group is walked
-- twice on a node, and each is walked once if every worker says that no job was left
pub record IsSweepRight (s : Script) (r : Report) (z : Sweep) : Type 0 where
  pub answers : (worker : ℕ) → worker < length s.workers.items → IsSomeAnd (answer_at r (sweep_serial s worker)) (IsSwept s z (sweep_walks s r worker))
  pub once : (group node : ℕ) → times_swept s r group node ≤ 1
  pub all : ((worker : ℕ) → worker < length s.workers.items → IsSomeAnd (reply_at r (sweep_serial s worker)) IsSweptOut)
      → (group node : ℕ) → group < length (parents_of s) → node < s.nodes → times_swept s r group node ≡ 1

-- the sweep of a script that has one is right
abbrev pub IsSweepLawful : Script → Report → Type 0
IsSweepLawful s r = (z : Sweep) → s.sweep ≡ Some z → IsSweepRight s r z
