-- SPDX-License-Identifier: GPL-2.0-only
-- A report of a script without a sweep has what the law on sweeps asks of it. What answers to a sweep are, and how many.
use Rattle.shr_laws.proofs.Common.{◌≡◌, ℕ, ◌+◌, ◌≤◌, length, refl, sym, ap, ◌∙◌, arith, slice_get, Option, Some, None, none-some, Answered, Reply, Script, Sweep, Report, commands_of, answers_of, answer_at, cited_by, sweep_serial, IsSweepLawful, slice_get_within, sweeps_in, sweeps_of, IsSweepReply}
use Rattle.shr_base.specs.declared.replies.Reply.TheVariants as reply
use Rattle.shr_base.specs.declared.scripts.WorkerScript.{WorkerScript}

pub quiet_sweep : (s : Script) (r : Report) → s.sweep ≡ None → IsSweepLawful s r
quiet_sweep s r none z e = absurd (none-some z (sym none ∙ e))

-- each worker has as many answers as commands
pub quiet_counts : (s : Script) (r : Report) → s.sweep ≡ None → ((worker : ℕ) → length (answers_of r worker) ≡ length (commands_of s worker))
    → (worker : ℕ) → length (answers_of r worker) ≡ length (commands_of s worker) + sweeps_of s worker
quiet_counts s r none counts worker = let zero = ap (λ o. sweeps_in o (slice_get s.workers.items worker)) none in let same = counts worker in omega (arith, same, zero)

-- and the other way round
pub own_counts : (s : Script) (r : Report) → s.sweep ≡ None → ((worker : ℕ) → length (answers_of r worker) ≡ length (commands_of s worker) + sweeps_of s worker)
    → (worker : ℕ) → length (answers_of r worker) ≡ length (commands_of s worker)
own_counts s r none counts worker = let zero = ap (λ o. sweeps_in o (slice_get s.workers.items worker)) none in let same = counts worker in omega (arith, same, zero)

-- no answer stands behind those to the commands
pub quiet_last : (s : Script) (r : Report) → ((worker : ℕ) → length (answers_of r worker) ≡ length (commands_of s worker))
    → (worker : ℕ) (a : Answered) → answer_at r (sweep_serial s worker) ≡ Some a → IsSweepReply a.reply
quiet_last s r counts worker a e = let lt = slice_get_within (answers_of r worker) (length (commands_of s worker)) a e in let same = counts worker in absurd (omega (arith, lt, same))

-- a worker answers a sweep at most once
pub few_sweeps : (o : Option Sweep) (w : Option WorkerScript) → sweeps_in o w ≤ 1
few_sweeps None w = omega arith
few_sweeps (Some z) None = omega arith
few_sweeps (Some z) (Some w) = omega arith

-- and cites no entry of a list
pub sweep_cites : (x : Reply) → IsSweepReply x → cited_by x ≡ None
sweep_cites (reply.Swept jobs freed) h = refl
sweep_cites (reply.WalkMemory freed) h = refl
sweep_cites x h = absurd h
