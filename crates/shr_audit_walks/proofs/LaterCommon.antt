-- SPDX-License-Identifier: GPL-2.0-only
-- The names that the proofs of this crate cite most, passed on from one place. Declares nothing.
pub use Rattle.std.proofs.Common.{Bool, List, None, Option, Some, [], ap, arith, cond, false, filter, flat_map, get_or, inl, inr, length, map, refl, slice_get, subst, suc, sym, take, true, zero, ℕ, ◌%◌, ◌*◌, ◌++◌, ◌+◌, ◌/◌, ◌<◌, ◌^◌, ◌∙◌, ◌∷◌, ◌≡◌, ◌≢◌, ◌≤◌, ◌⊎◌}
pub use Rattle.std.proofs.lemmas.Bool.{and_from, and_parts, cases_Bool, eq-eqb, eqb-true, ne_eqb}
pub use Rattle.std.proofs.lemmas.Bool.Decides.{nat_tests}
pub use Rattle.std.proofs.lemmas.Option.{get_or_from_slice_get, slice_get-get_or, slice_get_within}
pub use Rattle.std.specs.Bool.{Decides}
pub use Rattle.std.specs.HashMap.{get}
pub use Rattle.std.specs.HashSet.{contains}
pub use Rattle.std.specs.List.{AllByRecursion, list_any}
pub use Rattle.std.specs.Prelude.{bit_and, bit_or, min, nat_eq, nat_lt, not, option_and_then, option_map, ◌&&◌, ◌==◌, ◌||◌, ◌↔◌}
pub use Rattle.shr_audit_lists.specs.Words.{Words, word_key}
pub use Rattle.shr_audit_walks.specs.VersionTable.{Versions, fits, place_key, read_as, IsBlank}
pub use Rattle.shr_base.specs.declared.ends.WorkerPart.{WorkerPart}
pub use Rattle.shr_base.specs.declared.places.At.{At}
pub use Rattle.shr_base.specs.declared.places.Place.{Place}
pub use Rattle.shr_base.specs.declared.replies.Answered.{Answered}
pub use Rattle.shr_base.specs.Walks.{Attempt, WalkRecord}
pub use Rattle.shr_base.specs.declared.walks.MapSeen.{MapSeen}
pub use Rattle.shr_audit_case.proofs.Eachs.{decides_iff, each_walk_of}
pub use Rattle.shr_audit_case.specs.Each.{InParts}
pub use Rattle.shr_audit_formed.proofs.Eachs.{all_at, all_of, clash, each_all, each_in, each_more, each_weaker}
pub use Rattle.shr_audit_formed.specs.Each.{EachItem, IsWorkerCommand}
pub use Rattle.shr_model.proofs.Lists.{all_front, all_right, found_at}
pub use Rattle.shr_model.proofs.PlacesLaws.{is_place_itself, is_place_same}
pub use Rattle.shr_model.specs.Bits.{is_set}
pub use Rattle.shr_model.specs.Places.{bit_of, is_place, unit_of}
pub use Rattle.shr_model.specs.Walks.{clearings_of, place_in, versions_at}
pub use Rattle.shr_laws.specs.Parts.{EachWalk, answers_in, at, cited_at, cited_by, journals_of, parents_of, reply_at, serial_of}
pub use Rattle.shr_laws.specs.declared.report.Report.{Report}
pub use Rattle.shr_audit_walks.specs.Cited.{AreHighestCited, IsAboveEntry, IsAboveAt, IsAboveHighest, IsWalkLater, IsOutcomeAbove, IsPartLater, IsWalkAbove, NotesEntry, NotesReply, highest_at}
pub use Rattle.shr_audit_walks.specs.Cleared.{Clears, HasCleared, HasPlaces, PlaceSet, cleared_by}
pub use Rattle.shr_audit_walks.specs.Filled.{AreFilled, HasFilled, IsMapFull, IsNoWord, IsPartFilled, IsWalkFull, NotesFilled, filled_at, filled_by, is_filled, word_by_key}
