-- SPDX-License-Identifier: GPL-2.0-only
-- The moves of deferred words: what each of a report's lines adds at its place.
use Rattle.std.specs.Prelude.{◌≡◌, ℕ, ◌+◌, ◌*◌, ◌<◌, ◌^◌, ◌&&◌, nat_lt, cond, List, length, sum_by, flat_map}
use Rattle.std.specs.List.{AllByRecursion}
use Rattle.shr_base.specs.declared.places.Place.{Place}
use Rattle.shr_base.specs.declared.walks.PassRecord.{PassRecord}
use Rattle.shr_base.specs.Walks.{WalkRecord}
use Rattle.shr_base.specs.declared.walks.Carry.{Carry}
use Rattle.shr_base.specs.declared.ends.PlaceAmount.{PlaceAmount}
use Rattle.shr_model.specs.Places.{is_place, at_group}
use Rattle.shr_model.specs.Groups.{parent_of}
use Rattle.shr_model.specs.Amounts.{sum_at}
use Rattle.shr_model.specs.Deferred.{deferred_word}
use Rattle.shr_model.specs.Moves.{is_below, given_at, taken_at}
use Rattle.shr_model.specs.Walks.{passes_at}
use Rattle.shr_audit_case.specs.declared.moves.Move.{Move}
use Rattle.shr_audit_case.specs.Moves.{sum_up_at, sum_down_at}

-- a place by one number
abbrev pub deferred_key : Place → ℕ
deferred_key p = 16777216 * p.id + 65536 * p.node + p.group

-- the node and the group have the ranges of their types, so that the number is that of one place
pub record IsNarrow (p : Place) : Type 0 where
  pub node : p.node < 256
  pub group : p.group < 65536

-- the moves gain so much at each place
pub record GainsAt (up down : ℕ) (before after : List Move) (p : Place) : Type 0 where
  pub ups : sum_up_at (deferred_key p) after ≡ sum_up_at (deferred_key p) before + up
  pub downs : sum_down_at (deferred_key p) after ≡ sum_down_at (deferred_key p) before + down

-- the same of every place
abbrev pub GainsAtEach : (Place → ℕ) → (Place → ℕ) → List Move → List Move → Type 0
GainsAtEach up down before after = (p : Place) → IsNarrow p → GainsAt (up p) (down p) before after p

-- what a carry gave at a place, and took there
abbrev pub carried_to : List ℕ → Place → Carry → ℕ
carried_to parents p c = cond (is_below parents p c.place) c.amount 0

-- the same for what it took
abbrev pub carried_from : Place → Carry → ℕ
carried_from p c = cond (is_place p c.place) c.amount 0
