-- SPDX-License-Identifier: GPL-2.0-only
-- Seats for the workers, and their joining.
use Rattle.std.specs.Prelude.{◌≡◌, ℕ, [], ◌∷◌, ◌++◌}
use Rattle.shr_seats.specs.Standing.{with_split, with_join}
use Rattle.shr_core.specs.Steps.{with_one_split, split_off, with_joined}
use Rattle.shr_core.specs.Seats.{view_of}
use Rattle.shr_charge.specs.Seat.{uses_of, tree_of}
use Rattle.shr_charge.specs.Seat as charges
use Rattle.shr_charge.specs.Steps.{joined_tree}
use Rattle.shr_charge.specs.Views.{own_uses, no_tree, both_uses}
use Rattle.shr_deferred.specs.Seat.{moves_of, strands_of}
use Rattle.shr_deferred.specs.Seat as deferreds
use Rattle.shr_deferred.specs.Moves.{no_moves, both}
use Rattle.shr_plain.specs.Seat.{joined_state, no_state}
use Rattle.shr_plain.specs.Seat as plain
use Rattle.shr_tables.specs.declared.tables.CrewSeats.{CrewSeats}
use Rattle.shr_tables.specs.Firsts.{held_by}

-- first seats were split and joined alike, so often
pub record AreParted (s : CrewSeats) (splits joins : ℕ) : Type 0 where
  pub core_splits : (view_of s.seats.cache.core).standing.splits ≡ splits
  pub core_joins : (view_of s.seats.cache.core).standing.joins ≡ joins
  pub charge_splits : (charges.standing_of s.seats.cache.charge).splits ≡ splits
  pub charge_joins : (charges.standing_of s.seats.cache.charge).joins ≡ joins
  pub deferred_splits : (deferreds.deferred_standing s.seats.deferred).splits ≡ splits
  pub deferred_joins : (deferreds.deferred_standing s.seats.deferred).joins ≡ joins
  -- at both tables of the pools
  pub unit_splits : (plain.plain_standing s.plain).0.splits ≡ splits
  pub unit_joins : (plain.plain_standing s.plain).0.joins ≡ joins
  pub pooled_splits : (plain.plain_standing s.plain).1.splits ≡ splits
  pub pooled_joins : (plain.plain_standing s.plain).1.joins ≡ joins

-- the first seats were split once more, and have done and seen what they had
pub record AreSplit (old new : CrewSeats) : Type 0 where
  pub tables : held_by new ≡ held_by old
  pub core : view_of new.seats.cache.core ≡ with_one_split (view_of old.seats.cache.core)
  pub uses : uses_of new.seats.cache.charge ≡ uses_of old.seats.cache.charge
  pub tree : tree_of new.seats.cache.charge ≡ tree_of old.seats.cache.charge
  pub charged : charges.standing_of new.seats.cache.charge ≡ with_split (charges.standing_of old.seats.cache.charge)
  pub moves : moves_of new.seats.deferred ≡ moves_of old.seats.deferred
  pub strands : strands_of new.seats.deferred ≡ strands_of old.seats.deferred
  pub deferred : deferreds.deferred_standing new.seats.deferred ≡ with_split (deferreds.deferred_standing old.seats.deferred)
  pub state : plain.plain_state_of new.plain ≡ plain.plain_state_of old.plain
  pub standing : plain.plain_standing new.plain ≡ (
    with_split (plain.plain_standing old.plain).0,
    with_split (plain.plain_standing old.plain).1,
  )

-- Seats that were split off the first ones: they are of the same tables, know the pool's entries that those know, and have
-- done and noted nothing.
pub record AreNew (first s : CrewSeats) : Type 0 where
  pub tables : held_by s ≡ held_by first
  pub core : view_of s.seats.cache.core ≡ split_off (view_of first.seats.cache.core)
  pub uses : uses_of s.seats.cache.charge ≡ own_uses
  pub tree : tree_of s.seats.cache.charge ≡ no_tree
  pub moves : moves_of s.seats.deferred ≡ no_moves
  pub noted : s.seats.cache.uses.items ≡ []
  pub walks : s.seats.walks.items ≡ []
  pub carries : s.seats.carries.items ≡ []
  pub state : plain.plain_state_of s.plain ≡ no_state

-- what other seats did and saw went into the first ones
pub record AreJoined (old other new : CrewSeats) : Type 0 where
  pub tables : held_by new ≡ held_by old
  pub core : view_of new.seats.cache.core ≡ with_joined (view_of old.seats.cache.core) (view_of other.seats.cache.core)
  pub uses : uses_of new.seats.cache.charge ≡ both_uses (uses_of old.seats.cache.charge) (uses_of other.seats.cache.charge)
  pub tree : tree_of new.seats.cache.charge ≡ joined_tree (tree_of old.seats.cache.charge) (tree_of other.seats.cache.charge)
  pub charged : charges.standing_of new.seats.cache.charge ≡ with_join (charges.standing_of old.seats.cache.charge)
  pub moves : moves_of new.seats.deferred ≡ both (moves_of old.seats.deferred) (moves_of other.seats.deferred)
  pub strands : strands_of new.seats.deferred ≡ strands_of old.seats.deferred ++ moves_of other.seats.deferred ∷ []
  pub deferred : deferreds.deferred_standing new.seats.deferred ≡ with_join (deferreds.deferred_standing old.seats.deferred)
  pub state : plain.plain_state_of new.plain ≡ joined_state (plain.plain_state_of old.plain) (plain.plain_state_of other.plain)
  pub standing : plain.plain_standing new.plain ≡ (
    with_join (plain.plain_standing old.plain).0,
    with_join (plain.plain_standing old.plain).1,
  )
