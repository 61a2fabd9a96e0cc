-- SPDX-License-Identifier: GPL-2.0-only
-- The names that the proofs of this crate cite most, passed on from one place. Declares nothing.
pub use Rattle.std.proofs.Common.{Bool, List, [], ap, append_assoc, arith, cond, eq-eqb, eqb, eqb-true, false, get_or, get_or-set_other, get_or-set_same, inl, inr, length, length-append, lt-ltb, ltb, ne_eqb, not, refl, replicate, set, subst, suc, sym, take, true, zero, ℕ, ⊎_elim, ◌*◌, ◌++◌, ◌+◌, ◌-◌, ◌<◌, ◌∙◌, ◌∷◌, ◌≡◌, ◌≢◌, ◌≤◌, ◌⊎◌}
pub use Rattle.std.proofs.lemmas.List.{append-nil, length-replicate, length-set}
pub use Rattle.std.proofs.lemmas.List.Elements.{Contains-append_left, Contains-push}
pub use Rattle.std.proofs.lemmas.List.Quantifiers.{all_pairs_push}
pub use Rattle.std.specs.Prelude.{Contains, MatchBool, None, Option, Some, nat_lt, option_map, slice_get, slice_index, slice_index_or, slice_set, ◌&&◌, ◌==◌, ◌||◌, ◌↔◌}
pub use Rattle.shr_base.specs.declared.journals.Entry.{Entry}
pub use Rattle.shr_base.specs.declared.journals.Entry.TheVariants.{Add, Closed, Drained, Drop, Look, MovedIn, Pin, Scan}
pub use Rattle.shr_base.specs.declared.objects.Object.{Object}
pub use Rattle.shr_base.specs.declared.objects.Policy.{Policy}
pub use Rattle.shr_base.specs.declared.places.Place.{Place}
pub use Rattle.shr_base.specs.declared.places.Serial.{Serial}
pub use Rattle.shr_base.specs.declared.replies.Spent.{Spent}
pub use Rattle.shr_core.proofs.Calls.{inside}
pub use Rattle.shr_core.proofs.Hands.{changed_in_hand, has_taken, taken_in_hand}
pub use Rattle.shr_core.proofs.Options.{is_some_no, is_some_yes, not_some}
pub use Rattle.shr_core.specs.Layout.{beside, group_of, place_id, node_of}
pub use Rattle.shr_core.specs.Parts.{Claims, RoomContent, Counted, Hand, Holding, Known, Made, no_rooms}
pub use Rattle.shr_core.specs.Rule.{AreBorn, has_room, is_room, is_some_of, list_content, mark_of}
pub use Rattle.shr_core.specs.Seats.{IsPlaceOfShape, MayTake, Seated, shape_of, view_of}
pub use Rattle.shr_core.specs.Steps.{IsBacked, IsCounted, IsTaken, IsUnspliced, MayStore, content_in, drained_after, half_after, in_hand, is_empty, last_entry, moved_in_hand, owed_after, with_content, with_drained, with_given, with_set, with_stored, with_taken, without_room}
pub use Rattle.shr_core.specs.Tells.{IsInHand}
pub use Rattle.shr_core.specs.declared.rooms.Room.{Room}
pub use Rattle.shr_core.specs.declared.table.Core.{Core}
pub use Rattle.shr_core.specs.declared.view.View.{View}
pub use Rattle.shr_list.specs.Answers.{HasRoom, IsWorn, LacksMemory, RefusesClosed, RefusesWorn, Takes, TellsScan, add_entry, drain_entry, drop_entry, look_entry, pin_entry, scan_entry}
pub use Rattle.shr_list.specs.Listed.{IsSound, Listed}
pub use Rattle.shr_model.proofs.GroupsLaws.{IsChild, child_again, child_higher, child_takes, path_of-below}
pub use Rattle.shr_model.proofs.GroupsOrder.{IsAtOrAbove-le, IsAtOrAbove-refl, IsAtOrAbove-trans, on_child}
pub use Rattle.shr_model.proofs.Members.{Contains_from_Has, Has, Has_from_Contains}
pub use Rattle.shr_model.proofs.MovesLaws.{closed_at}
pub use Rattle.shr_model.specs.Families.{AreChildrenMovedIn, IsAllowed, IsBornAt, MayStand, moved_in}
pub use Rattle.shr_model.specs.Groups.{IsAtOrAbove, is_child, parent_of, path_of}
pub use Rattle.shr_model.specs.Trees.{IsTree}
pub use Rattle.shr_model.specs.Items.{IsOutcome, drop_kind_of, is_closed, step}
pub use Rattle.shr_model.specs.Objects.{holds, named_in}
pub use Rattle.shr_model.specs.Places.{at_group}
pub use Rattle.shr_model.specs.PlaceNumbers.{place_number}
pub use Rattle.shr_seats.proofs.Weighing.{Each-none, Each-push, Each-weaker, at_begins, begins_all, begins_more, begins_push, only_yes, times-push_other, times-without_other, times-without_same}
pub use Rattle.shr_seats.specs.Shapes.{groups_in}
pub use Rattle.shr_seats.specs.Views.{Each}
pub use Rattle.shr_seats.specs.Weights.{Begins, times, total, without}
pub use Rattle.shr_seats.specs.declared.shape.Shape.{Shape}
pub use Rattle.shr_node.specs.Answers.{Acts, HadRoom, LackedRoom, IsScanClosed, ScanGives, ScanIsWorn, ScanLacks, ScansPlace, TenantGives, TenantIsWorn, TenantLacks}
pub use Rattle.shr_node.specs.declared.answers.NodeAnswer.{NodeAnswer}
pub use Rattle.shr_node.specs.Draining.{AreDraws, DrainWorn, Draw, DrawsNone, EmptiesOne, IsDraw, IsListDrawn, IsFilled, LeavesOne, StopsAt, drawn, made_by_draws}
pub use Rattle.shr_node.specs.Gains.{Gains, IsKnownClosed, Knows, KnowsClosed, bits_for, is_raised, with_kept, with_raised}
pub use Rattle.shr_node.specs.Looking.{AreLooked, IsLookedAt, IsMarked}
pub use Rattle.shr_node.specs.Opening.{IsFirstOpen, IsOpened, IsRoomReady, IsUntouched, WasMet, WasOpen, entry_made}
pub use Rattle.shr_node.specs.Pairs.{AreBothTaken, with_both_left}
pub use Rattle.shr_node.specs.Splicing.{Closing, IsPair, SpliceWorn, bits_by, made_by_closing, moved_from_group, group_place}
pub use mathlib.Core.Logic.{dite}
pub use native.Mathlib.Decide.{dec_lt, ℕ_discrete}
