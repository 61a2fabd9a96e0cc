-- SPDX-License-Identifier: GPL-2.0-only
-- What the passes of pools moved. No public clause cites this.
use Rattle.std.specs.Prelude.{◌≡◌, ℕ, sum_by, cond, Option, Some, None}
use Rattle.shr_base.specs.declared.ends.WorkerPart.{WorkerPart}
use Rattle.shr_base.specs.declared.places.Place.{Place}
use Rattle.shr_base.specs.declared.scripts.Script.{Script}
use Rattle.shr_base.specs.declared.walks.PassRecord.{PassRecord}
use Rattle.shr_base.specs.declared.walks.PlainTry.{PlainTry}
use Rattle.shr_base.specs.declared.walks.PlainWalk.{PlainWalk}
use Rattle.shr_model.specs.Deferred.{deferred_word}
use Rattle.shr_model.specs.Places.{is_place}
use Rattle.shr_laws.specs.declared.report.Report.{Report}
use Rattle.shr_laws.specs.Pools.{pool_printed_at}
use Rattle.shr_laws.specs.UnitParts.{pass_at, pass_in, pool_passes, pool_place}

-- what this says of a pass, 0 where there is none
abbrev pub said_of_pass : (PassRecord → ℕ) → Option PassRecord → ℕ
said_of_pass f None = 0
said_of_pass f (Some p) = f p

-- the same of the pass of a walk at a place
abbrev pub moved_at : (PassRecord → ℕ) → Script → Place → PlainWalk → ℕ
moved_at f s place w = said_of_pass f (pass_at s place w)

-- of the try of a walk at this pool, if it is at this place
abbrev pub moved_in_try : (PassRecord → ℕ) → Script → Place → PlainWalk → ℕ → PlainTry → ℕ
moved_in_try f s place w pool x = cond (is_place place (pool_place s pool w.node)) (said_of_pass f (pass_in x)) 0

-- what a pass deferred, and what it took over
abbrev pub pass_next : PassRecord → ℕ
pass_next p = p.next

-- what a pass took over of the deferred word
abbrev pub nr_of : PassRecord → ℕ
nr_of p = p.nr

-- what the walks of a worker came to at a place
abbrev pub moved_by_worker : (PassRecord → ℕ) → Script → Place → WorkerPart → ℕ
moved_by_worker f s place part = sum_by (moved_at f s place) part.plain.items

-- each deferred word of a pool is what the passes there deferred less what they took over
abbrev pub ArePoolWordsRight : Script → Report → Type 0
ArePoolWordsRight s r = (place : Place) → pool_printed_at r place ≡ deferred_word (sum_by (λ (p : PassRecord). p.next) (pool_passes s r place)) (sum_by (λ (p : PassRecord). p.nr) (pool_passes s r place))
