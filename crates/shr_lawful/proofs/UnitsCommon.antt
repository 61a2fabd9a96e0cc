-- SPDX-License-Identifier: GPL-2.0-only
-- The names that the proofs of this crate cite most, passed on from one place. Declares nothing.
pub use Rattle.std.proofs.Common.{Bool, List, [], ap, append_assoc, arith, cond, drop, eq-eqb, eqb, false, flat_map, get_or, inl, inr, le-leb, length, length-append, map, ne_eqb, refl, subst, suc, sym, take, true, zero, ℕ, ⊎_elim, ◌%◌, ◌&&◌, ◌*◌, ◌++◌, ◌+◌, ◌/◌, ◌<◌, ◌∙◌, ◌∷◌, ◌≡◌, ◌≢◌, ◌≤◌, ◌⊎◌}
pub use Rattle.std.proofs.Math.Seq.{drop-append_seam, take-append_seam}
pub use Rattle.std.proofs.lemmas.Bool.{and_parts, cases_lt, eqb-true, leb-true, lt-ltb}
pub use Rattle.std.proofs.lemmas.List.{append-nil, append_cancel_left, map-append}
pub use Rattle.std.proofs.lemmas.List.Sums.{sum-map, sum_by-append, sum_by-cons}
pub use Rattle.std.proofs.lemmas.Option.{get_or_from_slice_get, none-some, same_Some, slice_get-get_or, slice_get_within}
pub use Rattle.std.specs.List.{AllAdjacentBelow, AllByRecursion, cons_option, enumerate_from}
pub use Rattle.std.specs.Prelude.{All, IsSomeAnd, None, Option, Some, count_by, filter, filter_map, find, nat_le, nat_lt, option_and_then, option_map, option_to_list, replicate, slice_get, sum, sum_by, ⊤, ◌==◌, ◌^◌}
pub use Rattle.shr_base.specs.declared.ends.UnitsEnd.{UnitsEnd}
pub use Rattle.shr_base.specs.declared.journals.PlainEntry.{PlainEntry}
pub use Rattle.shr_base.specs.declared.places.At.{At}
pub use Rattle.shr_base.specs.declared.places.Place.{Place}
pub use Rattle.shr_base.specs.declared.places.Serial.{Serial}
pub use Rattle.shr_base.specs.declared.replies.Answered.{Answered}
pub use Rattle.shr_base.specs.declared.replies.Reply.{Reply}
pub use Rattle.shr_base.specs.declared.replies.Spent.{Spent}
pub use Rattle.shr_base.specs.declared.scripts.Command.{Command}
pub use Rattle.shr_base.specs.declared.scripts.Command.TheVariants.{Grab, Release}
pub use Rattle.shr_base.specs.declared.scripts.PoolDecl.{PoolDecl}
pub use Rattle.shr_base.specs.declared.scripts.Script.{Script}
pub use Rattle.shr_base.specs.declared.walks.PassRecord.{PassRecord}
pub use Rattle.shr_base.specs.declared.walks.PlainAnswer.{PlainAnswer}
pub use Rattle.shr_base.specs.declared.walks.PlainTry.{PlainTry}
pub use Rattle.shr_base.specs.declared.walks.PlainTry.TheVariants.{Empty, Ran, Skip}
pub use Rattle.shr_base.specs.declared.walks.PlainWalk.{PlainWalk}
pub use Rattle.shr_deferred.proofs.SeatLaws.{gives_both, takes_both}
pub use Rattle.shr_deferred.specs.Moves.{Moves, both, gives_of, no_moves, takes_of}
pub use Rattle.shr_model.proofs.PlacesLaws.{is_place_itself, is_place_same}
pub use Rattle.shr_model.specs.Amounts.{amount_at, sum_at}
pub use Rattle.shr_model.specs.Deferred.{amount_of, deferred_word}
pub use Rattle.shr_model.specs.Places.{is_place}
pub use Rattle.shr_model.specs.Units.{IsPlainJournal, free_of}
pub use Rattle.shr_pass.specs.Passes.{MatchPass, asked_of, count_of, scan_freed, moves_by}
pub use Rattle.shr_pass.specs.declared.answers.Count.{Count}
pub use Rattle.shr_pass.specs.declared.answers.ScanSeen.{ScanSeen}
pub use Rattle.shr_plain.specs.Answers.{GrabGives, IsJournalWorn, Makes, ReleaseGives, Sees}
pub use Rattle.shr_plain.specs.Counting.{IsReclaimOf, units_kind, units_scan_by, scans_of}
pub use Rattle.shr_plain.specs.Ending.{UnitsEndValue, units_end_value, units_ends_below}
pub use Rattle.shr_plain.specs.Opening.{pool_sizes, setting_by, settings_of}
pub use Rattle.shr_plain.specs.Rule.{units}
pub use Rattle.shr_plain.specs.Seat.{PlainState, no_state}
pub use Rattle.shr_plain.specs.Settings.{IsPoolOf, home_place, setting_of}
pub use Rattle.shr_plain.specs.Walks.{Answers, AreCut, AreScans, AreTried, EndsBy, TryHadMemory, TryGives, answer_of, try_lacked_memory}
pub use Rattle.shr_plain.specs.declared.answers.GrabAnswer.{GrabAnswer}
pub use Rattle.shr_plain.specs.declared.answers.ReleaseAnswer.{ReleaseAnswer}
pub use Rattle.shr_plain.specs.declared.settings.Setting.{Setting}
pub use Rattle.shr_laws.specs.Causes.{IsPoolSpent}
pub use Rattle.shr_laws.specs.Parts.{EachAnswer, answer_at, answers_of, at, command_at, commands_of, reply_at, serial_of}
pub use Rattle.shr_laws.specs.Pools.{ArePoolsLawful, AreUnitsRight, CitesUnits, HasTries, IsKind, IsOfPlain, IsPlainCount, IsPlainEnding, IsPlainLawful, IsPlainPass, IsPoolReply, IsTooFull, ReclaimMade, freed_in_try, len_in, plain_told, plain_versions, pool_printed_at, reclaim_by, reclaims_by, version_in}
pub use Rattle.shr_laws.specs.UnitParts.{EachPlain, EachTry, EachUnits, PlainJob, all_plain, home_in, pass_at, pass_in, pool_passes, plain_at, plain_by, plain_by_of, plain_due, plain_in, plain_job_of, plain_jobs, plain_of, pool_place, try_at, units_cited, units_cited_at, units_entries, units_journal}
pub use Rattle.shr_laws.specs.WellFormed.{AreNotFalling, AreOfCommands, IsPlaceBefore, IsPlaceUpTo, units_place}
pub use Rattle.shr_laws.specs.declared.report.Report.{Report}
pub use Rattle.shr_seats.specs.RoomRule.{CountsPrefix, IsEntryMade, times_made}
pub use Rattle.shr_seats.specs.RoomTold.{IsRecent, IsTold}
pub use Rattle.shr_seats.specs.RoomViews.{RoomCount, RoomMade, RoomView, part_at, with_entry, with_known}
pub use Rattle.shr_seats.proofs.RowLaws.{IsAcross, one_place, place_inside, row_back, row_low}
pub use Rattle.shr_seats.proofs.Weighing.{begins_all, begins_more, some_term, total-append}
pub use Rattle.shr_seats.specs.Rows.{IsPlaceOf, place_of_row, row_count, row_of}
pub use Rattle.shr_seats.specs.Weights.{Begins, total}
pub use Rattle.shr_seats.specs.declared.rows.Sizes.{Sizes}
pub use Rattle.shr_lawful.specs.UnitDid.{DidGrab, DidRelease, DidUnitsOf, DidPoolWalk, DidPoolWalks, IsOther, units_grab_reply, home_of, home_room, units_release_reply}
pub use Rattle.shr_lawful.specs.UnitRuns.{AreUnits, IsPoolWorn}
pub use Rattle.shr_lawful.specs.UnitSteps.{AreChained, UnitsStep, last_units_state, units_made_in, units_state_after, units_steps_in, units_steps_of}
pub use mathlib.Core.Logic.{dite}
pub use native.Mathlib.Decide.{ℕ_discrete}
