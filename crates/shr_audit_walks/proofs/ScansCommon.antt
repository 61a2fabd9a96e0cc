-- SPDX-License-Identifier: GPL-2.0-only
-- The names that the proofs of this crate cite most, passed on from one place. Declares nothing.
pub use Rattle.std.proofs.Common.{Bool, List, None, Option, Some, [], ap, arith, cond, false, get_or, inl, inr, length, map, refl, rules, slice_get, subst, suc, sym, take, true, zero, ℕ, ◌*◌, ◌++◌, ◌+◌, ◌<◌, ◌^◌, ◌∙◌, ◌∷◌, ◌≡◌, ◌≢◌, ◌≤◌, ◌⊎◌}
pub use Rattle.std.proofs.lemmas.Bool.{and_from, and_parts, cases_Bool, eq-eqb, eqb-true}
pub use Rattle.std.proofs.lemmas.Bool.Decides.{nat_tests}
pub use Rattle.std.proofs.lemmas.List.{append-nil, append_assoc, map-append, take_all, take_more}
pub use Rattle.std.proofs.lemmas.List.FromFn.{get_or-enumerate_from, length-enumerate_from}
pub use Rattle.std.proofs.lemmas.List.Sorted.{Contains-permutation, IsNonDecreasingBy-from_sort, IsPartitionPoint-from_clause, IsPartitionedBy-leb, IsPartitionedBy-ltb, IsPermutation-sym, answers_always, searched}
pub use Rattle.std.proofs.lemmas.Option.{get_or_from_slice_get, slice_get-get_or, slice_get_within}
pub use Rattle.std.specs.Bool.{Decides}
pub use Rattle.std.specs.List.{AllByRecursion, enumerate_from}
pub use Rattle.std.specs.List.Sorted.{IsBinarySearchResult, IsNonDecreasing, IsPermutation, IsStableByKey, ties}
pub use Rattle.std.specs.Ordering.{is_lt, nat_cmp}
pub use Rattle.std.specs.Prelude.{Contains, filter, filter_map, flat_map, nat_le, nat_lt, ◌&&◌, ◌==◌, ◌↔◌}
pub use Rattle.shr_audit_passes.specs.Fields.{IsShaped}
pub use Rattle.shr_audit_passes.specs.declared.scans.ScanSeen.{ScanSeen}
pub use Rattle.shr_base.specs.declared.ends.PlaceEnd.{PlaceEnd}
pub use Rattle.shr_base.specs.declared.ends.WorkerPart.{WorkerPart}
pub use Rattle.shr_base.specs.declared.journals.Entry.{Entry}
pub use Rattle.shr_base.specs.declared.journals.Entry.TheVariants.{Add, Closed, Drained, Drop, Look, MovedIn, Pin, Scan}
pub use Rattle.shr_base.specs.declared.objects.Policy.TheVariants.{Plain}
pub use Rattle.shr_base.specs.declared.places.Place.{Place}
pub use Rattle.shr_base.specs.Walks.{Attempt, WalkRecord}
pub use Rattle.shr_audit_case.specs.Places.{IsFirst, end_printed}
pub use Rattle.shr_audit_formed.proofs.Eachs.{all_at, clash, each_in, fails, more_at, same_or_below}
pub use Rattle.shr_model.proofs.Lists.{flat_all}
pub use Rattle.shr_model.proofs.PlacesLaws.{is_place_itself, is_place_same}
pub use Rattle.shr_model.specs.Places.{is_place}
pub use Rattle.shr_laws.specs.LawfulWalk.{IsLawfulWalk}
pub use Rattle.shr_laws.specs.Numbers.{HasNumbers, IsAttemptNumbered, IsEntryNumbered, IsListNumbered, IsPartNumbered, IsWalkNumbered}
pub use Rattle.shr_laws.specs.WellFormed.{IsNumbered}
pub use Rattle.shr_laws.specs.declared.report.Report.{Report}
pub use Rattle.shr_audit_walks.specs.Keys.{key_of, row_key}
pub use Rattle.shr_audit_walks.specs.Others.{AreOfPasses, IsEntryOfPass}
pub use Rattle.shr_audit_walks.specs.Passes.{ArePassesOf, key_if, keys_at, keys_in, keys_of_part, keys_of_report}
pub use Rattle.shr_audit_walks.specs.ScanRows.{AddsRowsOf, AreRowsOf, scan_row, rows_of, rows_with, with_key}
pub use Rattle.shr_audit_walks.specs.ScanWalks.{AreLawful, IsScannedAt}
