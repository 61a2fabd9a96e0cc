-- SPDX-License-Identifier: GPL-2.0-only
-- Words and rooms at the start.
use Rattle.std.specs.Prelude.{◌≡◌, ◌≢◌, ℕ, ◌*◌, ◌%◌, ◌<◌, List, [], length, slice_index}
use Rattle.shr_core.specs.Slots.{Slot}
use Rattle.shr_seats.specs.Views.{Each}

-- a room with an empty list of these limits, or an empty journal of the pool
pub record IsFreshRoom (items_limit entries_limit : ℕ) (slot : Slot) : Type 0 where
  pub entries : slot.list.entries ≡ []
  pub items : slot.list.items ≡ []
  pub most_items : slot.list.most_items ≡ items_limit
  pub most_entries : slot.list.most_entries ≡ entries_limit
  pub pool : slot.pool.items ≡ []

-- each of these rooms is fresh
abbrev pub AreFreshRooms : ℕ → ℕ → List Slot → Type 0
AreFreshRooms items_limit entries_limit slots = Each (IsFreshRoom items_limit entries_limit) slots

-- lookup words have the first lookup's number, and all other words are 0
pub record AreFirstWords (first : ℕ) (words : List ℕ) : Type 0 where
  pub others : (i : ℕ) → i % 8 ≢ 3 → slice_index words i ≡ 0
  pub looks : (i : ℕ) → i % 8 ≡ 3 → i < length words → slice_index words i ≡ first * 256
