-- SPDX-License-Identifier: GPL-2.0-only
-- The place of a seat among the seats of its table.
use Rattle.std.specs.Prelude.{◌≡◌, ℕ, Bool, true, false, not, ◌&&◌, ◌+◌, List, length, count_by}
use Rattle.atomic_table.specs.Seated.{TableId}
use Rattle.shr_seats.specs.Views.{Each}

-- Where a seat stands. Only the first one is split and joined into.
pub record Standing : Type 0 where
  -- it is the first seat of the table
  pub first : Bool
  -- it was joined into the first one
  pub gone : Bool
  -- how often it was split
  pub splits : ℕ
  -- how often another was joined into it
  pub joins : ℕ

-- the first seat of a new table
abbrev pub at_first : Standing
at_first = record { first = true; gone = false; splits = 0; joins = 0 }

-- a seat that was split off
abbrev pub at_split : Standing
at_split = record { first = false; gone = false; splits = 0; joins = 0 }

-- what is left of a seat that was joined into the first
abbrev pub at_end : Standing
at_end = record { first = false; gone = true; splits = 0; joins = 0 }

-- the standing of the first seat once it was split once more
abbrev pub with_split : Standing → Standing
with_split z = record z { splits = z.splits + 1 }

-- the standing of the first seat once another was joined into it
abbrev pub with_join : Standing → Standing
with_join z = record z { joins = z.joins + 1 }

-- it was split off and not yet joined
abbrev pub is_out : Standing → Bool
is_out z = not z.first && not z.gone

-- all seats that were split off were joined
abbrev pub IsWhole : Standing → Type 0
IsWhole z = z.joins ≡ z.splits

-- the standings of all seats of a table, those that were joined away too
pub record AreSeats (standings : List Standing) : Type 0 where
  -- exactly one is the first
  pub one_first : count_by (λ (z : Standing). z.first) standings ≡ 1
  -- those that are neither the first nor joined away are as many as its splits less its joins
  pub out : Each (λ z. z.first ≡ true → count_by is_out standings + z.joins ≡ z.splits) standings
  -- there is one more than its splits
  pub number : Each (λ z. z.first ≡ true → length standings ≡ 1 + z.splits) standings

-- a view that was joined away holds nothing but the note of it
abbrev pub AreEmptied : {V : Type 0} → (V → Standing) → V → List V → Type 0
AreEmptied standing spent views = Each (λ v. (standing v).gone ≡ true → v ≡ spent) views

-- a seat is of this table and was not joined away
pub record IsSeatOf (table seat : TableId) (z : Standing) : Type 0 where
  pub same : seat ≡ table
  pub here : z.gone ≡ false
