-- SPDX-License-Identifier: GPL-2.0-only
-- The names that the proofs of this crate cite most, passed on from one place. Declares nothing.
pub use Rattle.std.proofs.Common.{Bool, List, None, Option, Some, T, [], ap, append_assoc, arith, cond, drop, eq-eqb, false, get_or, inl, inr, length, map, ne_eqb, not, refl, set, slice_get, subst, suc, sym, take, true, zero, ℕ, ⊎_elim, ◌%◌, ◌&&◌, ◌++◌, ◌+◌, ◌-◌, ◌/◌, ◌<◌, ◌^◌, ◌||◌, ◌∙◌, ◌∷◌, ◌≡◌, ◌≢◌, ◌≤◌, ◌⊎◌}
pub use Rattle.std.proofs.lemmas.Bool.{cases_eq, cases_lt, eqb-true}
pub use Rattle.std.proofs.lemmas.Bool.Decides.{Decides-like, nat_tests}
pub use Rattle.std.proofs.lemmas.Int.{ints}
pub use Rattle.std.proofs.lemmas.List.{at_drop_all, at_drop_more, drop_more, get_or-set_other, get_or-set_same, get_or_default, get_or_past, length-map, length-set, length-take-le, length_push, map_more, take-append-drop, take_all, take_more}
pub use Rattle.std.proofs.lemmas.List.Sums.{count_by-le-length, length-filter, sum_by-append, sum_by-cons}
pub use Rattle.std.proofs.lemmas.Option.{slice_get-get_or, slice_get_past, slice_get_within}
pub use Rattle.std.specs.Bool.{Decides}
pub use Rattle.std.specs.List.{AllByRecursion, enumerate_from, list_any, position_from, range_with_len}
pub use Rattle.std.specs.Prelude.{IfSome, MatchOption, count_by, filter, find, flat_map, int_lt, is_none, is_some, nat_lt, option_and_then, option_map, pos, sum_by, ℤ, ◌-ℤ◌, ◌==◌, ◌↔◌}
pub use Rattle.shr_base.specs.declared.ends.PlaceEnd.{PlaceEnd}
pub use Rattle.shr_base.specs.declared.journals.Entry.{Entry}
pub use Rattle.shr_base.specs.declared.journals.TreeEntry.TheVariants.{Begin, Done, Made}
pub use Rattle.shr_base.specs.declared.journals.UseStep.{UseStep}
pub use Rattle.shr_base.specs.declared.objects.Object.{Object}
pub use Rattle.shr_base.specs.declared.places.Place.{Place}
pub use Rattle.shr_base.specs.declared.places.Serial.{Serial}
pub use Rattle.shr_base.specs.declared.replies.Answered.{Answered}
pub use Rattle.shr_base.specs.declared.replies.Reply.{Reply}
pub use Rattle.shr_base.specs.declared.scripts.Command.{Command}
pub use Rattle.shr_base.specs.declared.scripts.GroupDecl.{GroupDecl}
pub use Rattle.shr_base.specs.declared.scripts.Script.{Script}
pub use Rattle.shr_base.specs.declared.scripts.WorkerScript.{WorkerScript}
pub use Rattle.shr_model.proofs.Lists.{added_to, all_both, all_push, flat_all, flat_one, map_end, some_injective}
pub use Rattle.shr_model.specs.Charges.{AreTakenBack, IsBelow, IsChargeHistory, IsDownNext, IsNextUse, downs, is_by, is_refused, ops_by, ups, usage_after}
pub use Rattle.shr_model.specs.Commands.{is_serial}
pub use Rattle.shr_model.specs.Families.{items_at, items_of, lists_moved_at}
pub use Rattle.shr_model.specs.Freeings.{Freeing, born_below, freeings_at, is_at_or_above}
pub use Rattle.shr_model.specs.Groups.{Hierarchy, is_child, is_later, parent_of, path_of}
pub use Rattle.shr_model.specs.Trees.{IsTree}
pub use Rattle.shr_model.specs.Items.{freed_by}
pub use Rattle.shr_model.specs.TreeJournal.{IsTreeJournal}
pub use Rattle.shr_audit_case.specs.declared.tags.FreedTag.{FreedTag}
pub use Rattle.shr_laws.specs.Charges.{AreChargesLawful, IsDownBetween, charged, freed_in_command, is_of, listed_below}
pub use Rattle.shr_laws.specs.Numbers.{HasNumbers, IsEntryNumbered, IsIsolationNumbered, IsListNumbered, IsPartNumbered, IsUseNumbered, IsWalkNumbered}
pub use Rattle.shr_laws.specs.Parts.{answer_at, command_at, commands_in, entry_by, isolations_in, journal_of, journals_of, later_of, limit_of, limits_of, parents_of, reply_at, serial_of, walks_in}
pub use Rattle.shr_laws.specs.declared.report.Report.{Report}
pub use Rattle.shr_audit_case.specs.declared.moves.Move.{Move}
pub use Rattle.shr_audit_charges.specs.Balance.{AreBalanced, unit}
pub use Rattle.shr_audit_charges.specs.History.{AreCharged, AreNone, AreUsagesOf, FoundSo, IsNextOfGroup, with_use, put_usage, usage_of, usage_with, group_uses}
pub use Rattle.shr_audit_charges.specs.Left.{AreFinal, AreWithin, IsWithinLimit, left_below, left_keys, tag_keys}
pub use Rattle.shr_audit_charges.specs.Nets.{AreWorkersFew, AreNets, answer_keys, by_keys, charge_keys, commands_keys, freed_keys, place_keys, workers_keys}
pub use Rattle.shr_audit_charges.specs.Own.{AreOwnRight, IsKeyed, MayStandBefore, few_ups, limit_in, own_key, own_in_group, own_with}
pub use Rattle.shr_audit_charges.specs.Paths.{keys_with, path_keys, start_of}
pub use Rattle.shr_audit_charges.specs.Puts.{AreUpsOfPuts, IsUpOfPut}
pub use Rattle.shr_audit_charges.specs.Tree.{AreGroupStatesOf, IsUndone, hierarchy, state_of_group}
pub use Rattle.shr_audit_charges.specs.Uses.{down_keys, up_keys}
pub use Rattle.shr_audit_charges.specs.declared.history.Usage.{Usage}
