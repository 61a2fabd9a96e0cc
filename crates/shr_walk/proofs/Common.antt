-- SPDX-License-Identifier: GPL-2.0-only
-- The names that the proofs of this crate cite most, passed on from one place. Declares nothing.
pub use Rattle.std.proofs.Common.{Bool, List, None, [], ap, append_assoc, arith, cond, eq-eqb, false, get_or, inl, inr, length, length-append, map, ne_eqb, refl, rules, subst, suc, sym, take, true, zero, ℕ, ⊎_elim, ◌%◌, ◌&&◌, ◌*◌, ◌++◌, ◌+◌, ◌-◌, ◌/◌, ◌<◌, ◌==◌, ◌^◌, ◌∙◌, ◌∷◌, ◌≡◌, ◌≢◌, ◌≤◌, ◌⊎◌}
pub use Rattle.std.proofs.Math.Nat.{div-le_self, mod-lt}
pub use Rattle.std.proofs.lemmas.Bool.{cases_Bool, cases_lt, lt-leb}
pub use Rattle.std.proofs.lemmas.Bool.Decides.{nat_tests}
pub use Rattle.std.proofs.lemmas.Grind.{flat_map-append, take_at_read}
pub use Rattle.std.proofs.lemmas.List.{append-nil, append_cancel_left, length-map, length-take-le, map-append, map_push, nil_from_length, take_all, take_at, take_more}
pub use Rattle.std.proofs.lemmas.List.Elements.{All-append, All-cons, All-from_recursion, All-get_or, All-nil, Contains-append_left, Contains-get_or, filter_map-append}
pub use Rattle.std.proofs.lemmas.Nat.{div-add-mod', mod-pow-add, ones_cat, ones_le_self, pow_pos, zero_from_ones}
pub use Rattle.std.specs.Int.{bit_at, trailing_zeros, w64}
pub use Rattle.std.specs.List.{range_with_len}
pub use Rattle.std.specs.Prelude.{All, Contains, Err, Option, Some, count_ones, eqb, filter, filter_map, flat_map, nat_le, slice_get, sum, sum_by, unwrap_or, ◌||◌}
pub use Rattle.shr_base.specs.Kept.{Kept}
pub use Rattle.shr_base.specs.declared.ends.LookupWord.{LookupWord}
pub use Rattle.shr_base.specs.declared.journals.Entry.{Entry}
pub use Rattle.shr_base.specs.declared.journals.UseStep.{UseStep}
pub use Rattle.shr_base.specs.declared.objects.Object.{Object}
pub use Rattle.shr_base.specs.declared.objects.Policy.{Policy}
pub use Rattle.shr_base.specs.declared.places.Place.{Place}
pub use Rattle.shr_base.specs.declared.places.Serial.{Serial}
pub use Rattle.shr_base.specs.declared.replies.Spent.{Spent}
pub use Rattle.shr_base.specs.declared.scripts.CacheDecl.{CacheDecl}
pub use Rattle.shr_base.specs.declared.scripts.GroupDecl.{GroupDecl}
pub use Rattle.shr_base.specs.Walks.{Attempt, WalkRecord}
pub use Rattle.shr_base.specs.declared.walks.Ending.{Ending}
pub use Rattle.shr_base.specs.declared.walks.GoneThen.{GoneThen}
pub use Rattle.shr_base.specs.declared.walks.MapSeen.{MapSeen}
pub use Rattle.shr_base.specs.declared.walks.Outcome.{Outcome}
pub use Rattle.shr_base.specs.declared.walks.PassRecord.{PassRecord}
pub use Rattle.shr_base.specs.declared.walks.WalkAnswer.{WalkAnswer}
pub use Rattle.shr_base.specs.declared.walks.WalkAnswer.TheVariants.{Memory, Walked}
pub use Rattle.shr_charge.specs.Charging.{AreDowns, AreRising, IsDown, calls_with, use_group}
pub use Rattle.shr_charge.specs.Seat.{ChargeSeated, counted, spent_by, standing_of, tree_of, uses_of}
pub use Rattle.shr_charge.specs.Views.{TreeView, Uses, both_uses}
pub use Rattle.shr_charge.specs.declared.answers.GroupState.{GroupState}
pub use Rattle.shr_charge.specs.declared.answers.GroupState.TheVariants.{NotMade, Offline, Online}
pub use Rattle.shr_core.proofs.Gains.{adds_none, adds_then, gained_alone, of_clear, of_leave, of_lookup, of_map, of_put, of_set, of_word}
pub use Rattle.shr_core.specs.Answers.{Finds}
pub use Rattle.shr_core.specs.Gained.{Adds, AreKinds, Gained, IsIdle, nothing, then_gained}
pub use Rattle.shr_core.specs.Layout.{map_number}
pub use Rattle.shr_core.specs.Parts.{Claims, Counted, Known, Loaded, Made, Mapped, Tried, Turns}
pub use Rattle.shr_core.specs.Rule.{AreBorn}
pub use Rattle.shr_core.specs.Seats.{IsPlaceOfShape, Seated, shape_of, view_of}
pub use Rattle.shr_core.specs.Steps.{with_clear, with_count, with_leave, with_lookup, with_map, with_put, with_set, with_word}
pub use Rattle.shr_core.specs.declared.view.View.{View}
pub use Rattle.shr_deferred.specs.Moves.{Moves, both, no_moves}
pub use Rattle.shr_list.specs.Answers.{scan_entry}
pub use Rattle.shr_model.specs.Attempts.{is_clearing, is_held, number_of, pass_of}
pub use Rattle.shr_model.specs.Bits.{is_set, units_of}
pub use Rattle.shr_model.specs.Trees.{IsHierarchy, IsTree, depth_of}
pub use Rattle.shr_model.specs.Groups.{path_of, preorder_of}
pub use Rattle.shr_model.specs.Pass.{FollowsArithmetic, MadeOf, batch_of, due, total_of}
pub use Rattle.shr_model.specs.Paths.{parent_path, root_path}
pub use Rattle.shr_model.specs.PlaceNumbers.{place_number}
pub use Rattle.shr_model.specs.Prefixes.{IsPrefixOf}
pub use Rattle.shr_node.specs.Gains.{Gains, Knows, KnowsClosed}
pub use Rattle.shr_pass.specs.Answers.{CountFits, FreesAtMost, scans_with}
pub use Rattle.shr_pass.specs.Passes.{EndedBy, IfEmptyPass}
pub use Rattle.shr_pass.specs.declared.answers.Count.{Count}
pub use Rattle.shr_pass.specs.declared.answers.PassAnswer.{PassAnswer}
pub use Rattle.shr_pass.specs.declared.answers.ScanAnswer.{ScanAnswer}
pub use Rattle.shr_pass.specs.declared.answers.ScanAnswer.TheVariants.{Closed, Freed, NoRoom, Stop, Worn}
pub use Rattle.shr_pass.specs.declared.answers.ScanSeen.{ScanSeen}
pub use Rattle.shr_script.proofs.BoundsLaws.{within_of_valid}
pub use Rattle.shr_script.specs.Content.{HaveParentsBefore, Content, IsValid, content_of, or_root}
pub use Rattle.shr_seats.proofs.Weighing.{Each-append, Each-none, Each-one, Each-weaker, begins_all, begins_more, times-push_other, times-without_other, times-without_same}
pub use Rattle.shr_seats.specs.Shapes.{HasLimits, IsShape, groups_in, hierarchy_of}
pub use Rattle.shr_seats.specs.Views.{Each}
pub use Rattle.shr_seats.specs.Weights.{Begins, times, without}
pub use Rattle.shr_seats.specs.declared.rows.Sizes.{Sizes}
pub use Rattle.shr_seats.specs.declared.shape.Shape.{Shape}
pub use Rattle.shr_walk.specs.Acting.{Acting, IsSame, IsStill, walk_of}
pub use Rattle.shr_walk.specs.Attempts.{Found, GoneGives, HeldGives, IsAttempted, IsLevel, IsLoadShown, WasHeld, number_is, tries_in, work_in}
pub use Rattle.shr_walk.specs.Balances.{AreWalked, HadMemory, IsBalanceCut, IsBalanced, OneGives, all_groups, walk_freed, lacked_memory, walk_over}
pub use Rattle.shr_walk.specs.Fresh.{AreFresh, IsFreshAt, Rising}
pub use Rattle.shr_walk.specs.Keeping.{AllUncharged, IsCountAt, IsScanAt, IsScanOf, Keeps, Uncharged, Walks, born_none, born_then, objects_freed, fresh_earlier, keeps_refl, shared_parents, paths_of, uncharged_none, uncharged_then, uses_same}
pub use Rattle.shr_walk.specs.ListScans.{FindsUsedUp, HaveRoom, ListScanGives, ListerAnswers, without_visits}
pub use Rattle.shr_walk.specs.Listing.{AreChargesTold, IsReady, IsReadyAs, Tells, WornTold, count_at, count_kind, counts_at, ready_stays, scan_at, list_scan_by, scans_at}
pub use Rattle.shr_walk.specs.Records.{AreLater, AreScannedBy, AreStopped, IsKindByFloor, IsScanMade, cleared_by_outcome, counts_of_outcome, gained_in, is_setting, place_of_walk, set_by_outcome}
pub use Rattle.shr_walk.specs.Sharing.{IsDeepest, IsShapeOf, IsShared, groups_of}
pub use Rattle.shr_walk.specs.Shown.{HasShown, IsWalkSeen, PassSeen, WornSeen}
pub use Rattle.shr_walk.specs.State.{Does, Work, WorkerState, no_work, state_of, then_work}
pub use Rattle.shr_walk.specs.Visits.{IsCleared, IsSet, IsVisitor, PassMade, RestoreGives, VisitGives, owes_at, visit_moves}
pub use Rattle.shr_walk.specs.Walked.{AreClear, AreParts, AreTried, AreTriedFirst, Ends, FreedFew, GoesOn, IsCutLast, IsMade, IsNextBit, IsRecordOf, IsRootWalked, IsUncut, IsWalkNumber, IsWalkOver, IsWalked, RootMade, WalkMade, WalkOffline, WalkParts, counts_seen, freed_in, ids_shown, is_outcome_cut, map_seen, moves_made, no_parts, number_in, parts_of, place_of, places_where, record_of, then_parts, walk_work, word_work}
pub use Rattle.shr_walk.specs.declared.seats.CacheSeat.{CacheSeat}
pub use Rattle.shr_walk.specs.declared.seats.Seats.{Seats}
pub use Rattle.shr_walk.specs.declared.seats.Shared.{Shared}
pub use Rattle.shr_walk.specs.declared.walking.Walk.{Walk}
pub use lib.ListN.{get_elem?}
pub use mathlib.Core.Logic.{dite}
pub use mathlib.Core.Option.{some}
pub use native.Mathlib.Decide.{ℕ_discrete}
pub use Rattle.shr_core.specs.Ending.{units_in}
