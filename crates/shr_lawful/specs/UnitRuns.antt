-- SPDX-License-Identifier: GPL-2.0-only
-- What the workers of a run did at the pools of units, in plain data, and what is printed of it.
use Rattle.std.specs.Prelude.{◌≡◌, ℕ, ◌+◌, ◌<◌, ◌≤◌, nat_lt, cond, List, length, map, flat_map, slice_get, Some, ⊤}
use Rattle.std.specs.List.{AllByRecursion}
use Rattle.shr_base.specs.declared.ends.PlaceAmount.{PlaceAmount}
use Rattle.shr_base.specs.declared.journals.PlainEntry.{PlainEntry}
use Rattle.shr_base.specs.declared.places.Place.{Place}
use Rattle.shr_base.specs.declared.replies.Answered.{Answered}
use Rattle.shr_base.specs.declared.replies.Spent.{Spent}
use Rattle.shr_base.specs.declared.scripts.Command.{Command}
use Rattle.shr_base.specs.declared.scripts.Command.TheVariants.{Release, Grab}
use Rattle.shr_base.specs.declared.scripts.Script.{Script}
use Rattle.shr_model.specs.Amounts.{sum_at}
use Rattle.shr_model.specs.Deferred.{deferred_word}
use Rattle.shr_model.specs.Units.{IsPlainJournal}
use Rattle.shr_seats.specs.Rows.{IsPlaceOf, row_count}
use Rattle.shr_seats.specs.Views.{Each}
use Rattle.shr_seats.specs.Weights.{Begins}
use Rattle.shr_deferred.specs.Moves.{takes_of, gives_of}
use Rattle.shr_seats.specs.RoomRule.{IsEntryMade, CountsPrefix, times_made}
use Rattle.shr_seats.specs.RoomViews.{RoomView, part_at}
use Rattle.shr_plain.specs.Ending.{units_end_value, units_ends_below}
use Rattle.shr_plain.specs.Rule.{units}
use Rattle.shr_plain.specs.Seat.{no_state}
use Rattle.shr_laws.specs.declared.report.Report.{Report}
use Rattle.shr_laws.specs.Causes.{IsPoolSpent}
use Rattle.shr_laws.specs.Parts.{serial_of, commands_of, sweeps_of, answers_of, answer_at, reply_at, command_at}
use Rattle.shr_laws.specs.Pools.{pool_printed_at}
use Rattle.shr_laws.specs.Swept.{sweep_serial, IsSweepReply}
use Rattle.shr_laws.specs.UnitParts.{pool_place, plain_of}
use Rattle.shr_plain.specs.Opening.{pool_sizes}
use Rattle.shr_lawful.specs.UnitDid.{DidUnits}
use Rattle.shr_lawful.specs.UnitSteps.{UnitsStep, units_steps_of, AreChained, last_units_state, units_made_in}

-- a step of a worker by its number, with the command of the script and the reply of the report
pub record IsUnitsStep (s : Script) (r : Report) (worker k : ℕ) (x : UnitsStep) : Type 0 where
  pub by : x.by ≡ serial_of worker k
  pub command : command_at s (serial_of worker k) ≡ Some x.command
  pub reply : reply_at r (serial_of worker k) ≡ Some x.reply
  pub did : DidUnits s x

-- what a worker did and saw in a room is so of the journal
pub record IsSeenIn (journal : List PlainEntry) (t : RoomView PlainEntry) : Type 0 where
  pub known : Begins t.known journal
  pub made : Each (IsEntryMade journal) t.made
  pub seen : Each (CountsPrefix units journal) t.seen

-- the journal of a room is legal, and made by the workers, an entry by one step
pub record IsRoomOf (workers : List (List UnitsStep)) (i : ℕ) (journal : List PlainEntry) : Type 0 where
  pub legal : IsPlainJournal journal
  pub short : length journal ≤ 2147483648
  pub seen : (worker : ℕ) → IsSeenIn journal (part_at (last_units_state (units_steps_of workers worker)).rooms i)
  pub once : (n : ℕ) → times_made n (units_made_in workers i) ≡ cond (nat_lt n (length journal)) 1 0

-- A run at the pools: the report prints the journals that the steps of the workers made, their walks,
-- and the deferred words that they left.
pub record AreUnits (s : Script) (r : Report) (workers : List (List UnitsStep)) : Type 0 where
  pub each : (worker k : ℕ) (x : UnitsStep) → slice_get (units_steps_of workers worker) k ≡ Some x → IsUnitsStep s r worker k x
  pub commands : (worker : ℕ) → length (commands_of s worker) ≡ length (units_steps_of workers worker)
  -- behind the answers to the commands there is at most that to the sweep, which does nothing at the pools
  pub answers : (worker : ℕ) → length (answers_of r worker) ≡ length (units_steps_of workers worker) + sweeps_of s worker
  pub last : (worker : ℕ) (a : Answered) → answer_at r (sweep_serial s worker) ≡ Some a → IsSweepReply a.reply
  pub chained : (worker : ℕ) → AreChained no_state (units_steps_of workers worker)
  pub walks : (worker : ℕ) → plain_of r worker ≡ (last_units_state (units_steps_of workers worker)).walks
  -- the journals by their rooms
  pub journal : ℕ → List PlainEntry
  pub rooms : (i : ℕ) → i < row_count (pool_sizes s) → IsRoomOf workers i (journal i)
  pub units : map units_end_value r.units.items ≡ units_ends_below (pool_sizes s) (row_count (pool_sizes s)) journal
  -- the deferred words
  pub words : (p : Place) → IsPlaceOf (pool_sizes s) p → pool_printed_at r p ≡ deferred_word
      (sum_at p (flat_map (λ (mine : List UnitsStep). gives_of (last_units_state mine).moves) workers)) (sum_at p (flat_map (λ (mine : List UnitsStep). takes_of (last_units_state mine).moves) workers))
  pub elsewhere : (p : Place) → (IsPlaceOf (pool_sizes s) p → ⊥) → pool_printed_at r p ≡ 0
  pub shown : AllByRecursion (λ (x : PlaceAmount). 0 < x.amount) r.pool_deferred.items

-- a command on a pool found the pool's journal used up; any other command is for others to say
abbrev pub IsPoolWorn : Script → Report → Command → Spent → Type 0
IsPoolWorn s r (Release node pool units) x = IsPoolSpent r (pool_place s pool node) x
IsPoolWorn s r (Grab node pool) x = IsPoolSpent r (pool_place s pool node) x
IsPoolWorn s r c x = ⊤
