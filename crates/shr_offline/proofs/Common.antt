-- SPDX-License-Identifier: GPL-2.0-only
-- The names that the proofs of this crate cite most, passed on from one place. Declares nothing.
pub use Rattle.std.proofs.Common.{Bool, List, [], ap, append_assoc, arith, cond, false, get_or, length, map, refl, subst, suc, sym, true, zero, ℕ, ◌%◌, ◌*◌, ◌++◌, ◌+◌, ◌/◌, ◌<◌, ◌^◌, ◌∙◌, ◌∷◌, ◌≡◌, ◌≤◌}
pub use Rattle.std.proofs.lemmas.List.FromFn.{get_or-map-range_with_len, length-map-range_with_len, map-range_with_len_more}
pub use Rattle.std.specs.Prelude.{Contains, None, sum, ◌==◌}
pub use Rattle.shr_base.specs.declared.places.Place.{Place}
pub use Rattle.shr_base.specs.declared.places.Serial.{Serial}
pub use Rattle.shr_base.specs.declared.walks.Carry.{Carry}
pub use Rattle.shr_charge.specs.declared.answers.DoneAnswer.{DoneAnswer}
pub use Rattle.shr_core.specs.Gained.{IsIdle, OwesNoMore}
pub use Rattle.shr_core.specs.Parts.{Claims, Known, no_rooms}
pub use Rattle.shr_core.specs.Seats.{shape_of, view_of}
pub use Rattle.shr_core.specs.declared.view.View.{View}
pub use Rattle.shr_deferred.specs.Seat.{DeferredSeated, GainsMoves}
pub use Rattle.shr_node.specs.Splicing.{Closing, IsClosing, IsSpliced, moved_from_group, group_place}
pub use Rattle.shr_node.specs.declared.answers.SpliceAnswer.{SpliceAnswer}
pub use Rattle.shr_seats.specs.declared.shape.Shape.{Shape}
pub use Rattle.shr_walk.specs.State.{WorkerState, state_of}
pub use Rattle.shr_walk.specs.declared.seats.Shared.{Shared}
pub use Rattle.shr_offline.specs.Carries.{AreCarried, above_of, amount_taken, carries_noted, carry_noted, carry_move, carry_moves}
pub use Rattle.shr_offline.specs.Offlined.{AreClosed, HandsOver, HandsOverAs}
pub use Rattle.shr_offline.specs.Splices.{AllGives, AreSpliced, all_places, first_places, place_by_number, count_of_places}
