-- SPDX-License-Identifier: GPL-2.0-only
-- The names that the proofs of this crate cite most, passed on from one place. Declares nothing.
pub use Rattle.std.proofs.Common.{Bool, List, [], ap, append_assoc, arith, cond, eq-eqb, eqb, false, get_or, length, length-append, map, ne_eqb, refl, subst, suc, sym, take, true, zero, ℕ, ⊎_elim, ◌%◌, ◌++◌, ◌+◌, ◌-◌, ◌<◌, ◌∙◌, ◌∷◌, ◌≡◌, ◌≤◌}
pub use Rattle.std.proofs.lemmas.Bool.Decides.{nat_tests}
pub use Rattle.std.proofs.lemmas.List.{append-nil, map-append, take-append-le}
pub use Rattle.std.proofs.lemmas.List.Elements.{Contains-append_right, Contains-push}
pub use Rattle.std.specs.Prelude.{Contains, None, Option, Some, nat_lt, ◌&&◌, ◌==◌, ◌||◌}
pub use Rattle.atomic_table.proofs.Lists.{at_last, at_longer, at_snoc}
pub use Rattle.shr_base.specs.declared.ends.LookupWord.{LookupWord}
pub use Rattle.shr_base.specs.declared.journals.PoolEntry.{PoolEntry}
pub use Rattle.shr_base.specs.declared.journals.PoolEntry.TheVariants.{Idle, Registered, Unregistered}
pub use Rattle.shr_base.specs.declared.objects.Object.{Object}
pub use Rattle.shr_base.specs.declared.places.Serial.{Serial}
pub use Rattle.shr_base.specs.declared.replies.HalfWhy.{HalfWhy}
pub use Rattle.shr_base.specs.declared.replies.Spent.{Spent}
pub use Rattle.shr_core.specs.Gained.{Adds, AreKinds, Gained, nothing, then_gained}
pub use Rattle.shr_core.specs.Layout.{place_id, places_in}
pub use Rattle.shr_core.specs.Parts.{Claims, RoomContent, Counted, Dated, Hand, Holding, Known, Loaded, Made, Traces, Tried, Turn, no_claims, no_rooms}
pub use Rattle.shr_core.specs.Rule.{HasLastEnd, has_room, is_some_of, mark_of, opener, pool_content}
pub use Rattle.shr_core.specs.Seats.{IsMet, Seated, shape_of, view_of}
pub use Rattle.shr_core.specs.Steps.{IsAtRest, IsCounted, MayPhase, content_in, dated_now, dating_of, in_hand, turn_at, undrained, with_content, with_given_up, with_leave, with_lookup, with_phase, with_pool_given, with_put, with_taken, with_word, without_id, without_room}
pub use Rattle.shr_core.specs.Tells.{HasPool, IsOfPool, Raises, pool_of}
pub use Rattle.shr_core.specs.declared.setting.Setting.{Setting}
pub use Rattle.shr_core.specs.declared.table.Core.{Core}
pub use Rattle.shr_core.specs.declared.view.View.{View}
pub use Rattle.shr_model.specs.PlaceNumbers.{place_number}
pub use Rattle.shr_model.specs.Pool.{decl_at, decl_of, from_of, is_live, is_live_below, is_live_decl, lowest_free, lowest_idle, phase_of, registrations}
pub use Rattle.shr_node.specs.Draining.{AreDraws, Draw, IsDraw, IsFilled, drawn, made_by_draws}
pub use Rattle.shr_node.specs.Gains.{Gains}
pub use Rattle.shr_node.specs.Splicing.{group_place}
pub use Rattle.shr_seats.proofs.Weighing.{begins_all, begins_more, begins_push, only_yes}
pub use Rattle.shr_seats.specs.Lines.{Deed, by_seat, state_after}
pub use Rattle.shr_seats.specs.Views.{Each}
pub use Rattle.shr_seats.specs.Weights.{Begins, times}
pub use Rattle.shr_seats.specs.declared.shape.Shape.{Shape}
pub use Rattle.shr_registry.specs.Adding.{Brings, IsFree, IsHeldBy, IsLiveAs, Loads, StaysFree, only_pool}
pub use Rattle.shr_registry.specs.Answers.{FindGives, FindWorn, FindsCache, FindsLive, FindsNoId, FindsNoNumber, HasLoaded, IsDatedBy, RegisterLacksMemory, Misses, RegisterGives, Registers, ShowsWord}
pub use Rattle.shr_registry.specs.Ending.{AreDrained, AreNodeDraws, Dies, Emptied, EmptyStops, EndsLacking, OwnsAll, Rests, RetireGives, StoppedBy, StopsIn, UnregisterGives, drawn_from, ended_turn, made_from}
pub use Rattle.shr_registry.specs.declared.answers.FindAnswer.{FindAnswer}
pub use Rattle.shr_registry.specs.declared.answers.RegisterAnswer.{RegisterAnswer}
pub use lib.ListN.{get_elem?}
pub use mathlib.Core.Logic.{dite}
pub use mathlib.Core.Option.{some, some-injective, some-ne-none}
pub use native.Mathlib.Decide.{ℕ_discrete}
