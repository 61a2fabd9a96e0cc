-- SPDX-License-Identifier: GPL-2.0-only
-- The names that the proofs of this crate cite most, passed on from one place. Declares nothing.
pub use Rattle.std.proofs.Common.{Bool, Global, List, None, Option, Some, [], ap, append_assoc, arith, drop, false, flat_map, length, map, refl, subst, suc, sym, take, true, zero, ℕ, ◌%◌, ◌++◌, ◌+◌, ◌-◌, ◌<◌, ◌^◌, ◌∙◌, ◌∷◌, ◌≡◌, ◌≢◌, ◌≤◌, ◌⊎◌}
pub use Rattle.std.proofs.lemmas.List.{append-nil, length-append, length-map, length-replicate, map-append, replicate-append-replicate, take-append-drop}
pub use Rattle.std.specs.List.{AllByRecursion, list_all, prefix_len}
pub use Rattle.std.specs.Prelude.{codes, option_map, replicate, ◌==◌}
pub use Rattle.shr_base.specs.Kept.{Kept}
pub use Rattle.shr_base.specs.Rest.{objects_from}
pub use Rattle.shr_base.specs.declared.ends.PlaceAmount.{PlaceAmount}
pub use Rattle.shr_base.specs.declared.ends.PlaceEnd.{PlaceEnd}
pub use Rattle.shr_base.specs.declared.ends.UnitsEnd.{UnitsEnd}
pub use Rattle.shr_base.specs.declared.ends.WorkerPart.{WorkerPart}
pub use Rattle.shr_base.specs.declared.journals.Entry.{Entry}
pub use Rattle.shr_base.specs.declared.journals.PlainEntry.{PlainEntry}
pub use Rattle.shr_base.specs.declared.objects.Object.{Object}
pub use Rattle.shr_base.specs.declared.places.Serial.{Serial}
pub use Rattle.shr_base.specs.declared.replies.Answered.{Answered}
pub use Rattle.shr_base.specs.Walks.{Attempt, WalkRecord}
pub use Rattle.shr_base.specs.declared.walks.Carry.{Carry}
pub use Rattle.shr_base.specs.declared.walks.Isolation.{Isolation}
pub use Rattle.shr_base.specs.declared.walks.MapSeen.{MapSeen}
pub use Rattle.shr_base.specs.declared.walks.PlainTry.{PlainTry}
pub use Rattle.shr_base.specs.declared.walks.PlainWalk.{PlainWalk}
pub use Rattle.shr_model.specs.Pieces.{cut, pieces}
pub use Rattle.shr_audit_text.specs.Said.{IsReadOf, IsSaidNumbered, isolation_head_of, line_kind, plain_head_of, read_line, said_of}
pub use Rattle.shr_audit_text.specs.declared.said.Said.{Said}
pub use Rattle.shr_report.proofs.LinesBack.{IsPrintable, amount_of, printed_attempt, printed_bit, printed_cache, printed_carry, printed_deferred, printed_entry, printed_found, printed_group, printed_item, printed_list, printed_lookups, printed_map, printed_reply, printed_size, printed_total, printed_tree, printed_use, printed_version, printed_walk, walk_line}
pub use Rattle.shr_report.proofs.Printed.{Printed, printed}
pub use Rattle.shr_report.proofs.Sections.{all_both, all_taken, flat_numbered}
pub use Rattle.shr_laws.specs.Lines.{line, numbered, numeral}
pub use Rattle.shr_laws.specs.Numbers.{AreUnitsNumbered, HasNumbers, IsAmountNumbered, IsAnsweredNumbered, IsAttemptNumbered, IsCarryNumbered, IsCountNumber, IsEntryNumbered, IsFindNumbered, IsIsolationNumbered, IsListNumbered, IsMapNumbered, IsObjectNumbered, IsPartNumbered, IsPlainEntryNumbered, IsPlainNumbered, IsReplyNumbered, IsSeenNumbered, IsShort, IsTryNumbered, IsUseNumbered, IsWalkNumbered}
pub use Rattle.shr_report.specs.ReadLines.{Totals, read_amount, read_attempt, read_bit, read_cache, read_entry, read_found, read_group, read_isolation, read_item, read_list, read_lookups, read_map, read_pass_line, read_plain, read_plain_entry, read_pool_amount, read_reply_line, read_size, read_total, read_tree, read_units, read_use, read_version, read_walk, totals}
pub use Rattle.shr_laws.specs.Text.{bit_line, numbered_cache_line, deferred_line, entry_line, numbered_group_line, item_line, lookups_line, place_lines, plain_entry_line, pool_deferred_line, pool_entry_line, tree_line, units_lines, units_name_line, use_line, worker_lines}
pub use Rattle.shr_laws.specs.WalkText.{carry_line, isolation_line, plain_lines, walk_lines}
pub use Rattle.shr_laws.specs.WellFormed.{HasWords, IsBitWord, IsNumbered, IsPartWell, IsPlaceWell, IsPoolAmountWell, IsPoolNumbered, IsSpelled, IsTreeNumbered, IsWalkWell, IsWellFormed, LendsWord}
pub use Rattle.shr_laws.specs.declared.report.Report.{Report}
pub use Rattle.slab.specs.Slab.{Slab, Updates, get, slab_len}
pub use Rattle.shr_audit_text.specs.Draft.{walk_begun, drafted_report, found_answer, isolated, kept, last_changed, last_command, list_of, lists_of, no_part, padded, drafted_part, drafted_parts, passed_walk, plain_begun, drafted_plain, plains_of, drafted_pool, pools_of, replied, seen_walk, tried_walk, drafted_walk, drafted_walks, with_carry, with_found, with_isolation, with_last, with_more, with_plain, with_reply, with_said, with_walk}
pub use Rattle.shr_audit_text.specs.Reading.{AreTightUnits, IsTightList, IsTightPart, IsTightPlain, IsTightReport, IsTightWalk, Reads, Says, nothing_read}
pub use Rattle.shr_audit_text.specs.declared.parts.PartDraft.{PartDraft}
pub use Rattle.shr_audit_text.specs.declared.parts.PlainDraft.{PlainDraft}
pub use Rattle.shr_audit_text.specs.declared.parts.WalkDraft.{WalkDraft}
