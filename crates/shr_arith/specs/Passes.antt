-- SPDX-License-Identifier: GPL-2.0-only
-- What a pass did.
use Rattle.std.specs.Prelude.{◌≡◌, ℕ, ◌≤◌, Bool, true, false, Option, Some, None, take, sum}
use Rattle.shr_base.specs.declared.walks.Ending.{Ending}
use Rattle.shr_base.specs.declared.walks.Ending.TheVariants.{Through, Stop}
use Rattle.shr_model.specs.Pass.{MadeOf, due, due_asks, batch_of, total_of, delta_of, next_of}
use Rattle.shr_arith.specs.declared.passes.Pass.{Pass}
use Rattle.shr_arith.specs.declared.passes.Pressure.{Pressure}

-- how a pass ended, by whether a scan call said that no progress can be made
abbrev pub ending_of : Bool → Ending
ending_of true = Stop
ending_of false = Through

-- how many objects a pass freed: none if there was no pass
abbrev pub freed_of : Option Pass → ℕ
freed_of None = 0
freed_of (Some pass) = pass.freed

-- what a pass is to scan
abbrev pub total_due : Pressure → ℕ → Pass → ℕ
total_due pressure deferred pass = total_of pass.len deferred pressure.priority pressure.seeks

-- The pass follows the arithmetic: it made the first of the due calls, and all of them unless it was
-- stopped; it asked for what they are due; and it defers what is left.
pub record IsPass (pressure : Pressure) (deferred : ℕ) (pass : Pass) : Type 0 where
  pub made : MadeOf pass.calls (ending_of pass.stopped) (due (batch_of pressure.batch) pass.len (total_due pressure deferred pass))
  pub asked : pass.asked ≡ sum (take pass.calls (due_asks (batch_of pressure.batch) pass.len (total_due pressure deferred pass)))
  pub freed : pass.freed ≤ pass.asked
  pub next : pass.next ≡ next_of deferred (delta_of pass.len pressure.priority pressure.seeks) pass.asked pass.len
