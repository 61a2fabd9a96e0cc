-- SPDX-License-Identifier: GPL-2.0-only
-- The steps of the workers' parts of a sweep.
use Rattle.shr_lawful.proofs.Common.{◌≡◌, ℕ, ◌<◌, List, length, sym, subst, ◌∙◌, arith, slice_get, Some, None, same_Some, slice_get_within, slice_get_past, Answered, Script, Report, commands_of, answers_of, answer_at, sweep_serial, AreRunSteps, IsStep, Step, steps_of, AreWalksFor, IsSweepReply, DidSweep}
use Rattle.shr_model.proofs.Lists.{there_at}

-- the step of a worker's part of the sweep
pub record SweepStep (s : Script) (r : Report) (workers : List (List Step)) (worker : ℕ) : Type 0 where
  pub step : Step
  pub at : slice_get (steps_of workers worker) (length (commands_of s worker)) ≡ Some step
  pub is : IsStep s r worker (length (commands_of s worker)) step
  pub command : step.command ≡ None
  pub did : DidSweep s step

-- it stands behind those of the commands
pub sweep_step : (s : Script) (r : Report) (workers : List (List Step)) → AreRunSteps s r workers → (worker : ℕ) → length (commands_of s worker) < length (steps_of workers worker) → SweepStep s r workers worker
sweep_step s r workers steps worker within =
    let y = there_at (steps_of workers worker) (length (commands_of s worker)) within in
    let is = steps.each worker (length (commands_of s worker)) y.0 y.1 in
    let none : y.0.command ≡ None = sym is.command ∙ slice_get_past (commands_of s worker) (length (commands_of s worker)) (omega arith) in
    record { step = y.0; at = y.1; is = is; command = none; did = subst (AreWalksFor s y.0) none is.did.walks.asked }

-- the last answer of a worker is that to the sweep
pub last_answer : (s : Script) (r : Report) (workers : List (List Step)) → AreRunSteps s r workers → (worker : ℕ) (a : Answered) → answer_at r (sweep_serial s worker) ≡ Some a → IsSweepReply a.reply
last_answer s r workers steps worker a answer =
    let t = sweep_step s r workers steps worker (omega (arith, slice_get_within (answers_of r worker) (length (commands_of s worker)) a answer, steps.answers worker)) in
    subst (λ (y : Answered). IsSweepReply y.reply) (same_Some t.step.answered a (sym t.is.answered ∙ answer)) t.did.swept.kind
