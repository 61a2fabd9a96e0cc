-- SPDX-License-Identifier: GPL-2.0-only
-- The parts of a report that are of pools of units: journals by their places, walks of the pools by
-- their workers.
use Rattle.std.specs.Prelude.{◌≡◌, ℕ, ◌==◌, cond, List, [], ◌∷◌, find, filter, flat_map, filter_map, take, slice_get, Option, Some, None, option_and_then}
use Rattle.shr_base.specs.declared.places.Serial.{Serial}
use Rattle.shr_base.specs.declared.places.Place.{Place}
use Rattle.shr_base.specs.declared.places.At.{At}
use Rattle.shr_base.specs.declared.journals.PlainEntry.{PlainEntry}
use Rattle.shr_base.specs.declared.journals.PlainEntry.TheVariants as plain
use Rattle.shr_base.specs.declared.replies.Reply.{Reply}
use Rattle.shr_base.specs.declared.replies.Reply.TheVariants as reply
use Rattle.shr_base.specs.declared.scripts.PoolDecl.{PoolDecl}
use Rattle.shr_base.specs.declared.scripts.Command.{Command}
use Rattle.shr_base.specs.declared.scripts.Command.TheVariants as command
use Rattle.shr_base.specs.declared.scripts.Script.{Script}
use Rattle.shr_base.specs.declared.walks.PassRecord.{PassRecord}
use Rattle.shr_base.specs.declared.walks.PlainTry.{PlainTry}
use Rattle.shr_base.specs.declared.walks.PlainTry.TheVariants.{Empty, Skip, Ran}
use Rattle.shr_base.specs.declared.walks.PlainWalk.{PlainWalk}
use Rattle.shr_base.specs.declared.ends.UnitsEnd.{UnitsEnd}
use Rattle.shr_base.specs.declared.ends.WorkerPart.{WorkerPart}
use Rattle.shr_model.specs.Places.{is_place}
use Rattle.shr_model.specs.Units.{free_of}
use Rattle.shr_model.specs.Commands.{is_serial}
use Rattle.shr_laws.specs.declared.report.Report.{Report}
use Rattle.shr_laws.specs.Parts.{reply_at, at}
use Rattle.shr_laws.specs.WellFormed.{units_place}

-- the node at which a pool keeps the units of a node: node 0 if the pool is flat
abbrev pub home_in : Option PoolDecl → ℕ → ℕ
home_in None node = node
home_in (Some d) node = cond d.flat 0 node

-- the place of a pool on a node, which stands for its home
abbrev pub pool_place : Script → ℕ → ℕ → Place
pool_place s pool node = record { id = pool; node = home_in (slice_get s.pools.items pool) node; group = 0 }

-- the journal that is printed, or the empty one
abbrev pub units_entries : Option UnitsEnd → List PlainEntry
units_entries None = []
units_entries (Some u) = u.entries.items

-- the journals of the pools of a report: a place that isn't printed has the empty one
abbrev pub units_journal : Report → Place → List PlainEntry
units_journal r place = units_entries (find (λ (u : UnitsEnd). is_place (units_place u) place) r.units.items)

-- how many units are free at a place after so many entries
abbrev pub free_at : Report → Place → ℕ → ℕ
free_at r place n = free_of (take n (units_journal r place))

-- P of each entry of each journal of a pool, with its place and number
abbrev pub EachUnits : Report → (Place → ℕ → PlainEntry → Type 0) → Type 0
EachUnits r P = (place : Place) (n : ℕ) (e : PlainEntry) → slice_get (units_journal r place) n ≡ Some e → P place n e

-- the command of a Release and of a Grab
abbrev pub plain_by_of : PlainEntry → Option Serial
plain_by_of (plain.Release by units) = Some by
plain_by_of (plain.Grab by got) = Some by
plain_by_of (plain.Reclaim worker walk asked freed) = None

-- a place of a pool, by its numbers alone
abbrev pub units_place_at : ℕ → ℕ → Place
units_place_at pool node = record { id = pool; node = node; group = 0 }

-- the entry of a pool's journal that a reply cites
abbrev pub units_cited : Reply → Option At
units_cited (reply.Released pool node entry) = Some (at (units_place_at pool node) entry)
units_cited (reply.Grabbed pool node entry) = Some (at (units_place_at pool node) entry)
units_cited (reply.Bare pool node entry) = Some (at (units_place_at pool node) entry)
units_cited x = None

-- the entry of a pool's journal that the reply to a command cites
abbrev pub units_cited_at : Report → Serial → Option At
units_cited_at r by = option_and_then units_cited (reply_at r by)

-- the walks of the pools of a worker, none past the last part
abbrev pub plain_in : Option WorkerPart → List PlainWalk
plain_in None = []
plain_in (Some part) = part.plain.items

-- the same by the number of the worker
abbrev pub plain_of : Report → ℕ → List PlainWalk
plain_of r worker = plain_in (slice_get r.workers.items worker)

-- all of them
abbrev pub all_plain : Report → List PlainWalk
all_plain r = flat_map (λ (part : WorkerPart). part.plain.items) r.workers.items

-- a walk of the pools by the number of its worker and its own
abbrev pub plain_at : Report → ℕ → ℕ → Option PlainWalk
plain_at r worker n = slice_get (plain_of r worker) n

-- the walks of the pools of a command
abbrev pub plain_by : Report → Serial → List PlainWalk
plain_by r by = filter (λ (w : PlainWalk). is_serial by w.by) (plain_of r by.worker)

-- P of each walk of the pools, with the numbers of its worker and its own
abbrev pub EachPlain : Report → (ℕ → ℕ → PlainWalk → Type 0) → Type 0
EachPlain r P = (worker n : ℕ) (w : PlainWalk) → plain_at r worker n ≡ Some w → P worker n w

-- P of each try of a walk of the pools, with the number of its pool, its place and its declaration
abbrev pub EachTry : Script → PlainWalk → (ℕ → Place → PoolDecl → PlainTry → Type 0) → Type 0
EachTry s w P = (pool : ℕ) (d : PoolDecl) (x : PlainTry) → slice_get s.pools.items pool ≡ Some d → slice_get w.tries.items pool ≡ Some x → P pool (pool_place s pool w.node) d x

-- the pass of a try that ran one
abbrev pub pass_in : PlainTry → Option PassRecord
pass_in (Empty version) = None
pass_in (Skip len version) = None
pass_in (Ran p) = Some p

-- the try of a walk of the pools at a place, if it made one there
abbrev pub try_at : Script → Place → PlainWalk → Option PlainTry
try_at s place w = cond (is_place place (pool_place s place.id w.node)) (slice_get w.tries.items place.id) None

-- its pass there, if it ran one
abbrev pub pass_at : Script → Place → PlainWalk → Option PassRecord
pass_at s place w = option_and_then pass_in (try_at s place w)

-- the passes at a place of all walks of the pools
abbrev pub pool_passes : Script → Report → Place → List PassRecord
pool_passes s r place = filter_map (pass_at s place) (all_plain r)

-- a walk of the pools by what it was to do
pub record PlainJob : Type 0 where
  pub node : ℕ
  pub priority : ℕ

-- what a walk of the pools was to do
abbrev pub plain_job_of : PlainWalk → PlainJob
plain_job_of w = record { node = w.node; priority = w.priority }

-- the walk of the pools on this node with this priority alone
abbrev pub one_plain : ℕ → ℕ → List PlainJob
one_plain node priority = record { node = node; priority = priority } ∷ []

-- the walks of the pools that a command with this answer has in a script that has a pool: one if it
-- is a `balance`, or a `shrink` of the root, and was answered Walked
abbrev pub plain_jobs : Command → Reply → List PlainJob
plain_jobs (command.Balance node priority nofs) (reply.Walked freed) = one_plain node priority
plain_jobs (command.Shrink group node priority nofs) (reply.Walked freed) = cond (group == 0) (one_plain node priority) []
plain_jobs c x = []

-- the same in any script: none if it has no pool
abbrev pub plain_due : Script → Command → Reply → List PlainJob
plain_due s c x = plain_due_in s.pools.items c x
  where
    plain_due_in : List PoolDecl → Command → Reply → List PlainJob
    plain_due_in [] c x = []
    plain_due_in (d ∷ ds) c x = plain_jobs c x
