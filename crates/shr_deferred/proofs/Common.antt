-- SPDX-License-Identifier: GPL-2.0-only
-- The names that the proofs of this crate cite most, passed on from one place. Declares nothing.
pub use Rattle.std.proofs.Common.{Bool, List, [], ap, append_assoc, arith, cond, eq-eqb, eqb, false, get_or, get_or-set_other, get_or-set_same, inl, inr, length, length-append, length-set, map, ne_eqb, not, refl, set, subst, suc, sym, true, zero, ℕ, ⊎_elim, ◌%◌, ◌&&◌, ◌++◌, ◌+◌, ◌<◌, ◌^◌, ◌∙◌, ◌∷◌, ◌≡◌, ◌≢◌, ◌⊎◌}
pub use Rattle.std.proofs.lemmas.List.{append-nil, length-replicate, map-append, map-set}
pub use Rattle.std.specs.Mem.Slots.{slots_items}
pub use Rattle.std.specs.Prelude.{filter, replicate, ◌-◌}
pub use Rattle.atomic_table.proofs.Lists.{at_longer, at_map, at_set, at_snoc, set_again, set_else}
pub use Rattle.atomic_table.specs.Table.{Allows, Final, Joins, Me, Seen, Splits, State, keeps, opening}
pub use Rattle.shr_base.specs.declared.ends.PlaceAmount.{PlaceAmount}
pub use Rattle.shr_base.specs.declared.places.Place.{Place}
pub use Rattle.shr_model.specs.Amounts.{amount_at}
pub use Rattle.shr_model.specs.Deferred.{amount_of}
pub use Rattle.shr_seats.proofs.Lining.{AreSo-push, acts_by, did_at_some, lined_do, lined_first, lined_join, lined_sole, lined_split, part-append, part_other, part_own, set_there, state_after_push, total_parts}
pub use Rattle.shr_seats.proofs.Seating.{AreSeats-first, AreSeats-join, AreSeats-split, not_gone, others}
pub use Rattle.shr_seats.proofs.Sums.{Each-push, Each-set, range_same}
pub use Rattle.shr_seats.specs.Lines.{AreSo, Deed, acts_of, by_seat, part, state_after}
pub use Rattle.shr_seats.specs.Rows.{IsPlaceOf, place_of_row, row_count, row_of}
pub use Rattle.shr_seats.specs.Standing.{AreSeats, IsWhole, at_end, at_first, at_split}
pub use Rattle.shr_seats.specs.declared.rows.Sizes.{Sizes}
pub use Rattle.shr_deferred.specs.Alone.{IsAlone, left_at}
pub use Rattle.shr_deferred.specs.History.{HasHistory}
pub use Rattle.shr_deferred.specs.Moves.{Move, Moves, both, gave, give_of, gives_of, no_moves, take_of, takes_of, took}
pub use Rattle.shr_deferred.specs.Rule.{Amounts, AreOwnViews, AreStrands, AreTaken, IsSeatGone, IsOwnView, IsDeferredSound, TakesAll, after_move, amounts_after, amounts_next, deeds_in, first_view, gave_at, joined_view, new_view, nothing_deferred, spent_view, standing_in, strand_at, strands_in, took_at, with_split_view}
pub use Rattle.shr_deferred.specs.declared.view.View.{View}
pub use lib.ListN.{get_elem?}
pub use mathlib.Core.Logic.{dite}
pub use mathlib.Core.Option.{Option, some, some-injective, some-ne-none}
pub use native.Mathlib.Decide.{dec_lt, ℕ_discrete}
