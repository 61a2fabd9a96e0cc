-- SPDX-License-Identifier: GPL-2.0-only
-- What the private steps of a charge say. No public clause cites this.
use Rattle.std.specs.Prelude.{ℕ, ◌<◌, false, List, map, Result, Ok, Err}
use Rattle.shr_base.specs.declared.memory.Memory.{Memory}
use Rattle.shr_base.specs.declared.places.Serial.{Serial}
use Rattle.shr_model.specs.Walks.{Job, job}
use Rattle.shr_charge.specs.declared.answers.ChargeAnswer.{ChargeAnswer}
use Rattle.shr_charge.specs.declared.answers.ChargeAnswer.TheVariants as charge
use Rattle.shr_seats.specs.Shapes.{groups_in}
use Rattle.shr_core.specs.Seats.{shape_of}
use Rattle.shr_walk.specs.declared.seats.Shared.{Shared}
use Rattle.shr_walk.specs.State.{WorkerState}
use Rattle.shr_walk.specs.Rounds.{Visit, WalksAll, WalksFirst}
use Rattle.shr_walk.specs.declared.admission.Admission.{Admission}
use Rattle.shr_walk.specs.declared.admission.Admission.TheVariants as admission

-- these groups on a node
abbrev pub jobs_on : ℕ → ℕ → List ℕ → List Job
jobs_on node priority groups = map (λ g. job g node priority false) groups

-- all these walks were made, or the first of them, by which memory lacked
abbrev pub AllMade : Shared → Serial → List Job → WorkerState → WorkerState → Type 0
AllMade x by jobs s t = (walks : List Visit) × WalksAll x by jobs walks s t

-- the first of these walks were made, and then memory lacked
abbrev pub FirstMade : Shared → Serial → List Job → WorkerState → WorkerState → Type 0
FirstMade x by jobs s t = (walks : List Visit) × WalksFirst x by jobs walks s t

-- the answer of the call, by that of the last try
abbrev pub admission_of : Result ChargeAnswer Memory → Admission
admission_of (Ok charge.Charged) = admission.Charged
admission_of (Ok (charge.Over group operation usage)) = admission.Over group operation usage
admission_of (Err e) = admission.Memory

-- the group that refused, if one did, is a group
abbrev pub RefusedThere : Shared → ChargeAnswer → Type 0
RefusedThere x charge.Charged = Unit {0}
RefusedThere x (charge.Over group operation usage) = group < groups_in (shape_of x.core)
