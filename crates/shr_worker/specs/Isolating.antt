-- SPDX-License-Identifier: GPL-2.0-only
-- What each command records of isolations.
use Rattle.std.specs.Prelude.{◌≡◌, List}
use Rattle.shr_base.specs.declared.places.Serial.{Serial}
use Rattle.shr_base.specs.declared.replies.Answered.{Answered}
use Rattle.shr_base.specs.declared.scripts.Command.{Command}
use Rattle.shr_base.specs.declared.scripts.Command.TheVariants.{Isolate}
use Rattle.shr_base.specs.declared.walks.Isolation.{Isolation}
use Rattle.shr_walk.specs.declared.seats.Shared.{Shared}
use Rattle.shr_walk.specs.State.{WorkerState}
use Rattle.shr_drop.specs.Isolating.{IsolateGives}

-- What an isolation did at the tables of the caches between two states of its worker, by its answer,
-- and what it put behind the isolations that were recorded before. No other command records one.
abbrev pub RecordGives : Shared → Serial → Command → Answered → WorkerState → WorkerState
    → List Isolation → List Isolation → Type 0
RecordGives x by (Isolate at budget) a s t before after =
    IsolateGives x by at.group at.node at.decl budget a s t before after
RecordGives x by c a s t before after = after ≡ before
