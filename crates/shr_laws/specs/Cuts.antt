-- SPDX-License-Identifier: GPL-2.0-only
-- Which walks of a command ended for want of memory.
use Rattle.std.specs.Prelude.{◌≡◌, true, false, AllPairs, ⊤}
use Rattle.std.specs.List.{list_any}
use Rattle.shr_base.specs.declared.replies.Reply.{Reply}
use Rattle.shr_base.specs.declared.replies.Reply.TheVariants as reply
use Rattle.shr_base.specs.declared.scripts.Script.{Script}
use Rattle.shr_base.specs.Walks.{WalkRecord}
use Rattle.shr_model.specs.Walks.{is_cut}
use Rattle.shr_laws.specs.declared.report.Report.{Report}
use Rattle.shr_laws.specs.Parts.{walks_by, EachAnswer}

-- the answer is want of memory
abbrev pub IsWant : Reply → Type 0
IsWant reply.Memory = ⊤
IsWant (reply.WalkMemory freed) = ⊤
IsWant x = ⊥

-- of a command's walks only the last ended for want of memory, and then so did the command
pub record AreCutsTold (s : Script) (r : Report) : Type 0 where
  pub last : EachAnswer s r (λ by c a. AllPairs (λ (v w : WalkRecord). is_cut v.answer ≡ false) (walks_by r by))
  pub told : EachAnswer s r (λ by c a. list_any (λ (w : WalkRecord). is_cut w.answer) (walks_by r by) ≡ true → IsWant a.reply)
