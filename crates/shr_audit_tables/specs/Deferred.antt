-- SPDX-License-Identifier: GPL-2.0-only
-- Deferred words, worker by worker.
use Rattle.std.specs.Prelude.{◌≡◌, ℕ, List}
use Rattle.shr_base.specs.declared.places.Place.{Place}
use Rattle.shr_base.specs.declared.ends.WorkerPart.{WorkerPart}
use Rattle.shr_model.specs.Deferred.{deferred_word}
use Rattle.shr_model.specs.Moves.{given_at, taken_at}
use Rattle.shr_laws.specs.declared.report.Report.{Report}
use Rattle.shr_laws.specs.Deferred.{printed_at}
use Rattle.shr_laws.specs.Parts.{all_walks, all_carries}

-- what a worker's passes and carries gave at a place
abbrev pub given_by_worker : List ℕ → WorkerPart → Place → ℕ
given_by_worker parents part place = given_at parents part.walks.items part.carries.items place

-- what they took there
abbrev pub taken_by : WorkerPart → Place → ℕ
taken_by part place = taken_at part.walks.items part.carries.items place

-- each printed word is what passes and carries gave less what they took
abbrev pub AreWordsRight : List ℕ → Report → Type 0
AreWordsRight parents r = (place : Place) → printed_at r place ≡ deferred_word (given_at parents (all_walks r) (all_carries r) place) (taken_at (all_walks r) (all_carries r) place)
