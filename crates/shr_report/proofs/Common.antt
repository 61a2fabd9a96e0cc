-- SPDX-License-Identifier: GPL-2.0-only
-- The names that the proofs of this crate cite most, passed on from one place. Declares nothing.
pub use Rattle.std.proofs.Common.{Bool, List, None, Option, Some, [], add-zero, add_assoc, ap, append_assoc, arith, drop, false, flat_map, get_or, inl, inr, length, length-drop, map, pow-suc, refl, sub-one, subst, suc, sym, take, true, zero, ℕ, ◌%◌, ◌&&◌, ◌*◌, ◌++◌, ◌+◌, ◌-◌, ◌/◌, ◌<◌, ◌^◌, ◌∙◌, ◌∷◌, ◌≡◌, ◌≤◌, ◌⊎◌}
pub use Rattle.std.proofs.lemmas.Bool.Decides.{nat_tests}
pub use Rattle.std.proofs.lemmas.List.{append-nil, drop-drop, drop_all, drop_more, map_more, take-append-drop, take_all, take_more, take_rest}
pub use Rattle.std.proofs.lemmas.Option.{slice_get_read}
pub use Rattle.std.specs.Int.Digits.{AllBelowBase, digits_of, number_from_digits}
pub use Rattle.std.specs.List.{AllAdjacentBelow, AllByRecursion, AllZip, list_all, prefix_len, range_with_len}
pub use Rattle.std.specs.Prelude.{Err, Ok, OnOk, Result, bytes_eq, codes, decimal, if◌then◌else◌, negsuc, pos, slice_get, slice_index_or, sum_by, take_while, ℤ, ◌==◌, ◌||◌}
pub use Rattle.shr_base.specs.declared.ends.MapEnd.{MapEnd}
pub use Rattle.shr_base.specs.declared.ends.PlaceAmount.{PlaceAmount}
pub use Rattle.shr_base.specs.declared.ends.PlaceEnd.{PlaceEnd}
pub use Rattle.shr_base.specs.declared.ends.UnitsEnd.{UnitsEnd}
pub use Rattle.shr_base.specs.declared.ends.WorkerPart.{WorkerPart}
pub use Rattle.shr_base.specs.declared.journals.Entry.{Entry}
pub use Rattle.shr_base.specs.declared.journals.PlainEntry.{PlainEntry}
pub use Rattle.shr_base.specs.declared.journals.PoolEntry.{PoolEntry}
pub use Rattle.shr_base.specs.declared.journals.PoolEntry.TheVariants.{Registered}
pub use Rattle.shr_base.specs.declared.journals.TreeEntry.{TreeEntry}
pub use Rattle.shr_base.specs.declared.journals.TreeEntry.TheVariants.{Begin}
pub use Rattle.shr_base.specs.declared.journals.UseStep.{UseStep}
pub use Rattle.shr_base.specs.declared.objects.Object.{Object}
pub use Rattle.shr_base.specs.declared.objects.Policy.TheVariants.{Clock, Halt, Plain}
pub use Rattle.shr_base.specs.declared.places.Place.{Place}
pub use Rattle.shr_base.specs.declared.places.Serial.{Serial}
pub use Rattle.shr_base.specs.declared.replies.Answered.{Answered}
pub use Rattle.shr_base.specs.declared.replies.Found.{Found}
pub use Rattle.shr_base.specs.declared.replies.IsolateEnd.{IsolateEnd}
pub use Rattle.shr_base.specs.declared.replies.Reply.{Reply}
pub use Rattle.shr_base.specs.Walks.{Attempt, WalkRecord}
pub use Rattle.shr_base.specs.declared.walks.Carry.{Carry}
pub use Rattle.shr_base.specs.declared.walks.Ending.{Ending}
pub use Rattle.shr_base.specs.declared.walks.Isolation.{Isolation}
pub use Rattle.shr_base.specs.declared.walks.MapSeen.{MapSeen}
pub use Rattle.shr_base.specs.declared.walks.PassRecord.{PassRecord}
pub use Rattle.shr_base.specs.declared.walks.PlainAnswer.{PlainAnswer}
pub use Rattle.shr_base.specs.declared.walks.PlainTry.{PlainTry}
pub use Rattle.shr_base.specs.declared.walks.PlainTry.TheVariants.{Empty}
pub use Rattle.shr_base.specs.declared.walks.PlainWalk.{PlainWalk}
pub use Rattle.shr_base.specs.declared.walks.WalkAnswer.{WalkAnswer}
pub use Rattle.shr_model.proofs.BagLaws.{each_append, each_weaker}
pub use Rattle.shr_model.proofs.PiecesLaws.{and_true, cut_first, joined_cut, one-add, pieces_joined, same_byte}
pub use Rattle.shr_model.specs.Paths.{is_path}
pub use Rattle.shr_model.specs.Pieces.{cut, differs}
pub use Rattle.shr_model.specs.Words.{is_between, is_key, is_name, is_name_byte, is_part, is_value, is_visible}
pub use Rattle.shr_outside.proofs.Printing.{prints_all, prints_as, prints_both, prints_part}
pub use Rattle.shr_outside.specs.Paper.{Prints, PrintsTo}
pub use Rattle.shr_laws.specs.AnswerText.{choice, found_lines, isolate_end_words, place_words, reply_line, spent_words, value_word, why_words}
pub use Rattle.shr_laws.specs.Lines.{hex, hex_digit, hex_digits, line, numbered, numeral, signed_numeral, spaced}
pub use Rattle.shr_laws.specs.PartNumbers.{ArePartsWell}
pub use Rattle.shr_laws.specs.Numbers.{AreUnitsNumbered, HasNumbers, IsAmountNumbered, IsAnsweredNumbered, IsAttemptNumbered, IsCarryNumbered, IsEntryNumbered, IsIsolationNumbered, IsListNumbered, IsMapNumbered, IsObjectNumbered, IsPartNumbered, IsPlainEntryNumbered, IsPlainNumbered, IsSeenNumbered, IsTryNumbered, IsUseNumbered, IsWalkNumbered}
pub use Rattle.shr_report.specs.Printing.{AreNumberedTo, IsPrintedWithin, logs_from}
pub use Rattle.shr_report.specs.ReadLines.{IsolationHead, PlainHead, Totals, UnitsHead, WalkHead, read_amount, read_attempt, read_bit, read_cache, read_entry, read_found, read_group, read_isolation, read_item, read_list, read_lookups, read_map, read_pass_line, read_plain, read_plain_entry, read_pool, read_pool_amount, read_reply_line, read_size, read_total, read_tree, read_units, read_units_name, read_use, read_version, read_walk, totals}
pub use Rattle.shr_report.specs.Same.{IsOneReport, IsSameEnd, IsSamePart, IsSamePlain, IsSameUnits, IsSameWalk}
pub use Rattle.shr_laws.specs.Text.{Logs, after_command, answer_lines, bit_line, numbered_cache_line, deferred_line, end_lines, entry_line, numbered_group_line, is_carry_of, is_isolation_of, is_plain_of, is_walk_of, item_line, log_lines, logs_of, lookups_line, place_lines, plain_entry_line, pool_deferred_line, pool_entry_line, text, tree_line, units_lines, units_name_line, use_line, worker_lines}
pub use Rattle.shr_laws.specs.WalkText.{attempt_line, carry_line, ending_words, is_in_unit, isolation_line, map_line, map_lines, pass_line, pass_words, plain_lines, plain_try_words, plain_walked_words, walk_lines, walked_words}
pub use Rattle.shr_laws.specs.WellFormed.{AreOfCommands, HasWords, IsAmountWell, IsBitWord, IsPartWell, IsPlaceWell, IsPoolAmountWell, IsSpelled, IsWalkWell, IsWellFormed, LendsWord, bit_places, map_units}
pub use Rattle.shr_report.specs.Words.{word_text, word_texts}
pub use Rattle.shr_laws.specs.declared.report.Report.{Report}
