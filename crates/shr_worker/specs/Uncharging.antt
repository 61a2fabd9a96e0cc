-- SPDX-License-Identifier: GPL-2.0-only
-- What uncharging the objects that were drained makes.
use Rattle.std.specs.Prelude.{◌≡◌, ◌<◌, ◌^◌, ℕ, List, ◌++◌, length}
use Rattle.shr_base.specs.declared.objects.Object.{Object}
use Rattle.shr_base.specs.declared.journals.UseStep.{UseStep}
use Rattle.shr_base.specs.declared.places.Serial.{Serial}
use Rattle.shr_charge.specs.Views.{both_uses}
use Rattle.shr_charge.specs.Charging.{AreDowns, AreRising, calls_with}
use Rattle.shr_walk.specs.Keeping.{paths_of}
use Rattle.shr_walk.specs.State.{WorkerState}

-- One uncharge of each of these objects was made by this command, from its birth group up, on every
-- level, and each operation was noted. The calls stay below what a seat may make. Of the rest the
-- core's part alone may have changed.
pub record UnchargesEach (parents : List ℕ) (by : Serial) (objects : List Object) (s t : WorkerState)
    : Type 0 where
  pub ops : List UseStep
  pub downs : AreDowns by (paths_of parents objects) ops
  pub uses : t.uses ≡ both_uses s.uses (calls_with ops 0 (length objects))
  pub noted : t.noted ≡ s.noted ++ ops
  pub rise : AreRising s.uses.ops → AreRising t.uses.ops
  pub few : t.uses.uncharges < 2 ^ 25
  pub rest : t ≡ record s { core = t.core; uses = t.uses; noted = t.noted }
