-- SPDX-License-Identifier: GPL-2.0-only
-- What a contract sees of what a walk found.
use Rattle.std.specs.Prelude.{[]}
use Rattle.shr_base.specs.Kept.{Kept}
use Rattle.shr_base.specs.declared.walks.MapSeen.{MapSeen}
use Rattle.shr_base.specs.Walks.{Attempt}
use Rattle.shr_base.specs.declared.found.Few.{Few}
use Rattle.shr_base.specs.declared.found.Few.TheVariants.{Nothing, Map, More}

-- maps and attempts, and how many more of each can be pushed without memory
pub record WalkFinds : Type 0 where
  pub maps : Kept MapSeen
  pub attempts : Kept Attempt

-- the maps: one needs no memory
abbrev pub maps_found : Few → Kept MapSeen
maps_found Nothing = record { items = []; spare = 1 }
maps_found (Map seen) = record { items = seen; spare = 0 }
maps_found (More lists) = lists.value.maps

-- the attempts
abbrev pub attempts_found : Few → Kept Attempt
attempts_found Nothing = record { items = []; spare = 0 }
attempts_found (Map seen) = record { items = []; spare = 0 }
attempts_found (More lists) = lists.value.attempts

-- both
abbrev pub walk_finds : Few → WalkFinds
walk_finds few = record { maps = maps_found few; attempts = attempts_found few }
