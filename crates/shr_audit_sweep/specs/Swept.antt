-- SPDX-License-Identifier: GPL-2.0-only
-- Parts of the law on sweeps. No public clause cites this.
use Rattle.std.specs.Prelude.{◌≡◌, ℕ, ◌<◌, List, length, sum_by}
use Rattle.std.specs.Option.{IsSomeAnd}
use Rattle.shr_base.specs.declared.replies.Reply.{Reply}
use Rattle.shr_base.specs.declared.replies.Reply.TheVariants as reply
use Rattle.shr_base.specs.declared.scripts.Script.{Script}
use Rattle.shr_base.specs.declared.scripts.Sweep.{Sweep}
use Rattle.shr_base.specs.Walks.{WalkRecord}
use Rattle.shr_model.specs.Walks.{freed_told}
use Rattle.shr_laws.specs.declared.report.Report.{Report}
use Rattle.shr_laws.specs.Parts.{answer_at, reply_at}
use Rattle.shr_laws.specs.Swept.{IsSwept, IsSweepReply, IsSweptOut, freed_swept, sweep_serial, sweep_walks}

-- a reply says how many walks these are, or that memory was short, and what they freed
pub record IsSweepTold (walks : List WalkRecord) (x : Reply) : Type 0 where
  pub kind : IsSweepReply x
  pub jobs : (jobs freed : ℕ) → x ≡ reply.Swept jobs freed → jobs ≡ length walks
  pub freed : freed_swept x ≡ sum_by (λ (w : WalkRecord). freed_told w.answer) walks

-- each worker has its last answer
abbrev pub HaveSweepAnswers : Script → Report → Sweep → Type 0
HaveSweepAnswers s r z = (worker : ℕ) → worker < length s.workers.items → IsSomeAnd (answer_at r (sweep_serial s worker)) (IsSwept s z (sweep_walks s r worker))

-- each worker says that no job was left
abbrev pub AreSweptOut : Script → Report → Type 0
AreSweptOut s r = (worker : ℕ) → worker < length s.workers.items → IsSomeAnd (reply_at r (sweep_serial s worker)) IsSweptOut
