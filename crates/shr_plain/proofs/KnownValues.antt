-- SPDX-License-Identifier: GPL-2.0-only
-- Pools and the ends of their journals at known values.
use Rattle.shr_plain.proofs.Common.{◌≡◌, ◌==◌, cond, true, false, List, [], ◌∷◌, refl, arith, PlainEntry, Release, Grab, Serial, Sizes, IsJournalWorn, IsSetting, room_of, Setting, lit≤, sizes_for, home_node, IsPoolOf}
use Rattle.shr_base.specs.declared.replies.Spent.TheVariants as spent
use Rattle.shr_plain.specs.Ending.{units_ends_below}

-- a pool on each node, and a flat one
abbrev wide : Setting
wide = record { seeks = 2; batch = 0; floor = 0; flat = false }

abbrev flat : Setting
flat = record { seeks = 0; batch = 20000; floor = 20000; flat = true }

-- both on two nodes
abbrev two : Sizes
two = sizes_for 2 2

flat_setting : IsSetting flat
flat_setting = record { seeks = lit≤ tt; batch = lit≤ tt; floor = lit≤ tt }

not_setting : IsSetting (record wide { floor = 20001 }) → ⊥
not_setting h = let e = h.floor in omega (arith, e)

-- a flat pool's units are at node 0
at_home : (home_node wide 1 ≡ 1) × (home_node flat 1 ≡ 0)
at_home = (refl, refl)

rooms : (room_of (wide ∷ flat ∷ []) two 0 1 ≡ 1) × (room_of (wide ∷ flat ∷ []) two 1 1 ≡ 2)
rooms = (refl, refl)

-- without a pool the tables are made as for one, but no pool is there
as_for_one : sizes_for 0 4 ≡ record { ids = 1; nodes = 4; groups = 1 }
as_for_one = refl

not_there : IsPoolOf [] (sizes_for 0 4) 0 0 → ⊥
not_there h = let e = h.pool in omega (arith, e)

abbrev first : Serial
first = record { worker = 0; command = 0 }

abbrev used : List PlainEntry
used = Release first 5 ∷ Grab first true ∷ []

-- rooms with an entry are told with their free units, and no others
ends : units_ends_below two 3 (λ row. cond (row == 1) used []) ≡ record { pool = 0; node = 1; entries = used; free = 4 } ∷ []
unfolding units_ends_below
ends = refl

-- a journal of two entries isn't used up
not_worn : IsJournalWorn (record { id = 0; node = 0; group = 0 }) used (spent.List (record { id = 0; node = 0; group = 0 }) 2 4) → ⊥
not_worn h = let e = h.full in omega (arith, e)
