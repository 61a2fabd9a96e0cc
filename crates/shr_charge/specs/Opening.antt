-- SPDX-License-Identifier: GPL-2.0-only
-- The words of a new table.
use Rattle.std.specs.Prelude.{◌≡◌, ◌≢◌, ℕ, ◌+◌, ◌*◌, ◌%◌, ◌^◌, ◌<◌, Bool, cond, List, length, slice_index}
use Rattle.shr_model.specs.Groups.{is_later}
use Rattle.shr_charge.specs.Rule.{group_in}

-- the word of each group that is later is 2^63, and all others are 0
pub record AreFirstGroupWords (later : List Bool) (words : List ℕ) : Type 0 where
  pub long : length words ≡ 8 * length later + 1
  pub groups : (g : ℕ) → g < length later → group_in words g ≡ cond (is_later later g) (2 ^ 63) 0
  pub others : (i : ℕ) → i < length words → i % 8 ≢ 2 → slice_index words i ≡ 0
