-- SPDX-License-Identifier: GPL-2.0-only
-- One try of a charge.
use Rattle.std.specs.Prelude.{ℕ, List}
use Rattle.shr_base.specs.declared.journals.UseStep.{UseStep}
use Rattle.shr_base.specs.declared.places.Serial.{Serial}
use Rattle.shr_charge.specs.declared.answers.ChargeAnswer.{ChargeAnswer}
use Rattle.shr_charge.specs.declared.answers.ChargeAnswer.TheVariants.{Over}
use Rattle.shr_charge.specs.Charging.{ChargeOps}
use Rattle.shr_walk.specs.declared.seats.Shared.{Shared}
use Rattle.shr_walk.specs.State.{WorkerState, Work, no_work, Does}

-- the operations of one charge
abbrev pub charge_work : List UseStep → Work
charge_work ops = record no_work { ops = ops; charges = 1 }

-- a charge of this group was tried: its operations were noted, it counts as one charge, and nothing
-- else was done
pub record IsChargeTried (x : Shared) (by : Serial) (group : ℕ) (answer : ChargeAnswer)
    (s t : WorkerState) : Type 0 where
  pub ops : List UseStep
  pub does : Does s t (charge_work ops)
  pub made : ChargeOps x.charge.shape by group answer ops

-- why a charge was refused: the group that had no room, the operation that found it so, and the
-- usage that it found
pub record Refusal : Type 0 where
  pub group : ℕ
  pub operation : ℕ
  pub usage : ℕ

-- the answer of a refused charge
abbrev pub refused : Refusal → ChargeAnswer
refused r = Over r.group r.operation r.usage
