-- SPDX-License-Identifier: GPL-2.0-only
-- What a charge with its reclaim does, by its answer.
use Rattle.std.specs.Prelude.{◌≡◌, ◌⊎◌, ℕ, ◌+◌, ◌^◌, ◌<◌, ◌≤◌, List, length}
use Rattle.shr_base.specs.declared.places.Serial.{Serial}
use Rattle.shr_model.specs.Trees.{depth_of}
use Rattle.shr_charge.specs.declared.answers.ChargeAnswer.TheVariants as charge
use Rattle.shr_walk.specs.Acting.{Acting}
use Rattle.shr_walk.specs.declared.seats.Shared.{Shared}
use Rattle.shr_walk.specs.State.{WorkerState, no_work, Does}
use Rattle.shr_walk.specs.declared.admission.Admission.{Admission}
use Rattle.shr_walk.specs.declared.admission.Admission.TheVariants.{Charged, Over, Memory}
use Rattle.shr_walk.specs.Rounds.{Visit, Round, WalksFirst, TriesInRounds, due_in}
use Rattle.shr_walk.specs.Trying.{Refusal, refused}

-- the last try was not refused: there was one round for each that was, at most thirteen
pub record IsCharged (x : Shared) (by : Serial) (group : ℕ) (s t : WorkerState) : Type 0 where
  pub rounds : List Round
  pub tried : TriesInRounds x by group rounds charge.Charged s t
  pub few : length rounds ≤ 13

-- the try after the round of priority 0 was refused so
pub record IsLastTryRefused (x : Shared) (by : Serial) (group : ℕ) (r : Refusal)
    (s t : WorkerState) : Type 0 where
  pub rounds : List Round
  pub tried : TriesInRounds x by group rounds (refused r) s t
  pub all : length rounds ≡ 13

-- After a refusal memory lacked: of the round that was due then a beginning was made, perhaps the
-- whole, and no try after it.
pub record AreRoundsCut (x : Shared) (by : Serial) (group : ℕ) (s t : WorkerState) : Type 0 where
  pub rounds : List Round
  pub over : Refusal
  pub begun : WorkerState
  pub tried : TriesInRounds x by group rounds (refused over) s begun
  pub priority : ℕ
  pub due : length rounds + priority ≡ 12
  pub walks : List Visit
  pub cut : WalksFirst x by (due_in x priority over.group) walks begun t

-- What a charge with its reclaim did, by its answer. Memory: nothing was done, or it was cut
-- short. A charge stands after Charged alone, since each refused try took back what it had
-- charged.
abbrev pub AdmissionGives : Shared → Serial → ℕ → Admission → WorkerState → WorkerState → Type 0
AdmissionGives x by group Charged s t = IsCharged x by group s t
AdmissionGives x by group (Over g operation usage) s t =
    IsLastTryRefused x by group (record { group = g; operation = operation; usage = usage }) s t
AdmissionGives x by group Memory s t = Does s t no_work ⊎ AreRoundsCut x by group s t

-- the charge of a group can be taken back without memory: there is room to note that on each
-- level, and the calls are few enough
pub record CanTakeBack (group : ℕ) (w : Acting) : Type 0 where
  pub spare : depth_of w.shared.charge.shape.parents.items group ≤ w.use_room
  pub calls : w.state.uses.uncharges < 2 ^ 25

-- only a charge that was made can be taken back
abbrev pub LeavesRoom : ℕ → Admission → Acting → Type 0
LeavesRoom group Charged w = CanTakeBack group w
LeavesRoom group (Over g operation usage) w = Unit {0}
LeavesRoom group Memory w = Unit {0}
