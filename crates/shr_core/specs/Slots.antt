-- SPDX-License-Identifier: GPL-2.0-only
-- What a contract sees of a slot of the table.
use Rattle.std.specs.Prelude.{[]}
use Rattle.shr_base.specs.Kept.{Kept}
use Rattle.shr_base.specs.declared.journals.PoolEntry.{PoolEntry}
use Rattle.shr_list.specs.Listed.{Listed}
use Rattle.shr_core.specs.declared.slot.Lodged.{Lodged}
use Rattle.shr_core.specs.declared.slot.Lodged.TheVariants.{Nothing, Place, Pool}

-- the list of a place, and the pool's journal with its spare
pub record Slot : Type 0 where
  pub list : Listed
  pub pool : Kept PoolEntry

-- no list, which takes nothing
abbrev pub no_list : Listed
no_list = record { entries = []; items = []; keys = []; most_items = 0; most_entries = 0 }

-- no journal
abbrev pub no_pool : Kept PoolEntry
no_pool = record { items = []; spare = 0 }

-- the one that lies there, and the other empty
abbrev pub slot_of : Lodged → Slot
slot_of Nothing = record { list = no_list; pool = no_pool }
slot_of (Place list) = record { list = list; pool = no_pool }
slot_of (Pool pool) = record { list = no_list; pool = pool }
