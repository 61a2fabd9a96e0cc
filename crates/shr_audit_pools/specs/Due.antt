-- SPDX-License-Identifier: GPL-2.0-only
-- The walks of the pools of a command, in the part of its worker. No public clause cites this.
use Rattle.std.specs.Prelude.{◌≡◌, ◌==◌, ℕ, ◌<◌, ◌≤◌, List, filter, length, map, slice_get, Some}
use Rattle.std.specs.Option.{IsSomeAnd}
use Rattle.shr_base.specs.declared.ends.WorkerPart.{WorkerPart}
use Rattle.shr_base.specs.declared.replies.Answered.{Answered}
use Rattle.shr_base.specs.declared.scripts.Command.{Command}
use Rattle.shr_base.specs.declared.scripts.Script.{Script}
use Rattle.shr_base.specs.declared.walks.PlainWalk.{PlainWalk}
use Rattle.shr_audit_formed.specs.Each.{Adjacent}
use Rattle.shr_laws.specs.declared.report.Report.{Report}
use Rattle.shr_laws.specs.Parts.{command_at, commands_of, reply_at}
use Rattle.shr_laws.specs.UnitParts.{PlainJob, plain_due, plain_job_of}
use Rattle.shr_audit_pools.specs.declared.due.Job.{Job}

-- what a walk of the pools is to do, as the law says it
abbrev pub job_told : Job → PlainJob
job_told j = record { node = j.node; priority = j.priority }

-- as the walks of the pools of a worker stand in a well formed report
abbrev pub PoolWalksByCommand : List PlainWalk → Type 0
PoolWalksByCommand walks = Adjacent (λ x y. x.by.command ≤ y.by.command) walks

-- the walks of a command of a worker
abbrev pub plain_walks_with : List PlainWalk → ℕ → List PlainWalk
plain_walks_with walks n = filter (λ (w : PlainWalk). w.by.command == n) walks

-- the command with this number, if there is one, has these walks by its answer
abbrev pub HasDue : Script → List Command → ℕ → Answered → List PlainWalk → Type 0
HasDue s commands n a walks = (c : Command) → slice_get commands n ≡ Some c → map plain_job_of walks ≡ plain_due s c a.reply

-- and so does each command of a worker
abbrev pub IsPartDue : Script → ℕ → WorkerPart → Type 0
IsPartDue s worker part = (n : ℕ) (a : Answered) → slice_get part.answers.items n ≡ Some a → HasDue s (commands_of s worker) n a (plain_walks_with part.plain.items n)

-- a walk is due to a command of the script, by its reply
abbrev pub IsDue : Script → Report → PlainWalk → Type 0
IsDue s r w = IsSomeAnd (command_at s w.by) (λ c. IsSomeAnd (reply_at r w.by) (λ x. 0 < length (plain_due s c x)))
