-- SPDX-License-Identifier: GPL-2.0-only
-- One order of all that the workers did at the table of the caches.
use Rattle.std.specs.Prelude.{◌≡◌, ℕ, ◌+◌, List, slice_get, Some}
use Rattle.shr_base.specs.declared.places.Place.{Place}
use Rattle.shr_base.specs.declared.scripts.Script.{Script}
use Rattle.shr_model.specs.PlaceNumbers.{place_number}
use Rattle.shr_seats.specs.Lines.{Deed, part}
use Rattle.shr_seats.specs.Weights.{times, Begins}
use Rattle.shr_core.specs.Order.{AreEvents, AreOwn, AreInUse, last_users, last_moment}
use Rattle.shr_core.specs.Parts.{Event, cleared}
use Rattle.shr_laws.specs.declared.report.Report.{Report}
use Rattle.shr_laws.specs.Parts.{journals_of, IsThere}
use Rattle.shr_lawful.specs.Steps.{Step, IsAmong, steps_of}

-- a worker had done this by the end of one of its steps
pub record IsOfWorker (workers : List (List Step)) (d : Deed Event) : Type 0 where
  pub worker : ℕ
  pub k : ℕ
  pub step : Step
  pub at : slice_get (steps_of workers worker) k ≡ Some step
  pub seat : d.seat ≡ 1 + worker
  pub among : IsAmong d step.after.core.did

-- All that the workers did at the table of the caches stands in one line, each worker's as it did it, and each event is so
-- where it stands. The first seat of the table has the number 0, and the worker with a number the next one.
pub record IsInLine (s : Script) (r : Report) (workers : List (List Step)) : Type 0 where
  pub line : List (Deed Event)
  pub events : AreEvents s.ids 0 line
  -- up to the end of each of its steps
  pub parts : (worker k : ℕ) (x : Step) → slice_get (steps_of workers worker) k ≡ Some x → Begins x.after.core.did (part (1 + worker) line)
  -- a reference was given back only by the seat that took it
  pub own : AreOwn line
  -- what was done on the lists of an id was done in its use, and its end after that
  pub uses : AreInUse line
  -- a worker uses no id where one of its steps begins
  pub free : (worker k : ℕ) (x : Step) → slice_get (steps_of workers worker) k ≡ Some x → (i : ℕ) → times (1 + worker) (last_users x.before.core.did i) ≡ 0
  -- what the line leaves of the lists and of the journal of registrations is printed
  pub listed : (place : Place) → IsThere s place → (last_moment 0 line).now (place_number place) ≡ journals_of r place
  pub registered : (last_moment 0 line).pool ≡ r.pool.items
  -- each bit that was cleared a worker cleared
  pub clearings : (d : Deed Event) (place : ℕ) → IsAmong d line → d.act ≡ cleared place → IsOfWorker workers d
