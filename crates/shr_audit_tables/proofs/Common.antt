-- SPDX-License-Identifier: GPL-2.0-only
-- The names that the proofs of this crate cite most, passed on from one place. Declares nothing.
pub use Rattle.std.proofs.Common.{Bool, List, None, Option, Some, [], ap, arith, cond, eqb, false, get_or, inl, inr, length, map, ne_eqb, refl, set, slice_get, slice_index, subst, suc, sum, sym, take, true, zero, ℕ, ⊎_elim, ◌%◌, ◌++◌, ◌+◌, ◌/◌, ◌<◌, ◌^◌, ◌∙◌, ◌∷◌, ◌≡◌, ◌≢◌, ◌≤◌, ◌⊎◌}
pub use Rattle.std.proofs.lemmas.Bool.{cases_eq, cases_lt, cases_order}
pub use Rattle.std.proofs.lemmas.Bool.Decides.{Decides-and, Decides-below_or, Decides-eqb, Decides-like, nat_tests}
pub use Rattle.std.proofs.lemmas.List.{append-nil, append_assoc, get_or-set_other, get_or-set_same, get_or_default, get_or_past, length-map, length-set, length-take-le, length_push, map_more, take_all, take_more}
pub use Rattle.std.proofs.lemmas.List.Concat.{flat_map-append}
pub use Rattle.std.proofs.lemmas.List.Sums.{count_by-le-length, length-filter, sum_by-append, sum_by-cons, sum_by_more}
pub use Rattle.std.proofs.lemmas.Option.{MatchOption-at_some, get_or_from_slice_get, slice_get-get_or, slice_get_past, slice_get_read, slice_get_within}
pub use Rattle.std.specs.Bool.{Decides}
pub use Rattle.std.specs.List.{AllAdjacentBelow, AllByRecursion, cons_option, enumerate_from, list_any, range_with_len}
pub use Rattle.std.specs.Prelude.{count_by, filter, filter_map, find, flat_map, if◌then◌else◌, nat_lt, option_and_then, sum_by, ◌&&◌, ◌==◌, ◌||◌, ◌↔◌}
pub use Rattle.shr_base.specs.declared.ends.PlaceAmount.{PlaceAmount}
pub use Rattle.shr_base.specs.declared.ends.PlaceEnd.{PlaceEnd}
pub use Rattle.shr_base.specs.declared.ends.WorkerPart.{WorkerPart}
pub use Rattle.shr_base.specs.declared.journals.PoolEntry.{PoolEntry}
pub use Rattle.shr_base.specs.declared.journals.PoolEntry.TheVariants.{Idle, Registered, Unregistered}
pub use Rattle.shr_base.specs.declared.places.Place.{Place}
pub use Rattle.shr_base.specs.declared.replies.Answered.{Answered}
pub use Rattle.shr_base.specs.declared.scripts.Script.{Script}
pub use Rattle.shr_base.specs.Walks.{Attempt, WalkRecord}
pub use Rattle.shr_base.specs.declared.walks.Carry.{Carry}
pub use Rattle.shr_audit_formed.proofs.Eachs.{all_of, below_of, each_all, each_in, each_more, more_at, unmapped}
pub use Rattle.shr_audit_formed.specs.Each.{EachItem}
pub use Rattle.shr_model.proofs.Lists.{added_to, all_front, all_right, flat_all, flat_one, map_end, some_at}
pub use Rattle.shr_model.specs.Attempts.{number_of, pass_of}
pub use Rattle.shr_model.specs.Amounts.{amount_at, sum_at}
pub use Rattle.shr_model.specs.Deferred.{deferred_word}
pub use Rattle.shr_model.specs.Places.{is_place}
pub use Rattle.shr_model.specs.Pool.{IsNextPool, IsPoolJournal, is_live, last_number, phase_of}
pub use Rattle.shr_laws.specs.Deferred.{IsCarryRight, IsDeferredLawful, amount_in}
pub use Rattle.shr_laws.specs.Numbers.{HasNumbers, IsAmountNumbered, IsAnsweredNumbered, IsAttemptNumbered, IsCarryNumbered, IsFindNumbered, IsOutcomeNumbered, IsPartNumbered, IsWalkNumbered}
pub use Rattle.shr_laws.specs.Parts.{carries_in, decls_on, journal_of, journals_of, lookups_at, parents_of}
pub use Rattle.shr_laws.specs.WellFormed.{IsAmountWell, IsBefore, IsCarryBefore, IsNumbered, IsPlaceBefore, IsWellFormed}
pub use Rattle.shr_laws.specs.declared.report.Report.{Report}
pub use Rattle.shr_audit_case.proofs.Gaining.{gains_more}
pub use Rattle.shr_audit_case.specs.Deferred.{GainsAtEach, IsNarrow, carried_from, carried_to, deferred_key}
pub use Rattle.shr_audit_case.specs.Moves.{IsSettled, sum_down_at, sum_up_at}
pub use Rattle.shr_audit_case.specs.declared.moves.Move.{Move}
pub use Rattle.shr_audit_tables.specs.Deferred.{AreWordsRight, given_by_worker, taken_by}
pub use Rattle.shr_audit_tables.specs.Draws.{AreDrawnOnce, IsDrawn, answer_draws, attempt_draws, draw_key, drawn_move, found_draws, part_draws, tried_draws, walk_draws, wanted_move, wanted_from}
pub use Rattle.shr_audit_tables.specs.Idle.{AreIdleEmpty, IsEmptyAt, IsEmptyIfIdle, IsIdleIn, NonePast}
pub use Rattle.shr_audit_tables.specs.Lookups.{IsPoolLawful, OpensWith, on_from}
pub use Rattle.shr_audit_tables.specs.Registrations.{AreBlankStates, AreLastReached, AreStates, AreStatesOf, HasLive, IsFreeNow, IsStateLiveAs, IsLowestFree, MayRegister, NoneFree, with_pool_entry, put_state, state_of_id, state_with}
pub use Rattle.shr_audit_tables.specs.declared.registrations.IdState.{IdState}
