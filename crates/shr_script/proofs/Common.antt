-- SPDX-License-Identifier: GPL-2.0-only
-- The names that the proofs of this crate cite most, passed on from one place. Declares nothing.
pub use Rattle.std.proofs.Common.{Bool, Err, List, None, Ok, Option, Result, Some, [], ap, append_assoc, arith, cond, false, get_or, inl, inr, length, map, option_map, refl, subst, suc, sym, take, true, zero, zero-add, ℕ, ◌&&◌, ◌++◌, ◌+◌, ◌<◌, ◌^◌, ◌∙◌, ◌∷◌, ◌≡◌, ◌≤◌, ◌⊎◌}
pub use Rattle.std.proofs.lemmas.Bool.Decides.{nat_tests}
pub use Rattle.std.proofs.lemmas.List.{append-nil, length-map, length_push, map_push}
pub use Rattle.std.proofs.lemmas.List.Sums.{sum_by-cons}
pub use Rattle.std.proofs.lemmas.Slice.Eq.{bytes_eq-Decides}
pub use Rattle.std.specs.List.{AllByRecursion, count_by, list_all}
pub use Rattle.std.specs.Prelude.{IfSome, bytes_eq, codes, flat_map, nat_le, nat_lt, not, sum_by, ◌==◌, ◌||◌}
pub use Rattle.shr_base.specs.declared.places.Target.{Target}
pub use Rattle.shr_base.specs.declared.scripts.Act.TheVariants.{Del, Get, SetPin}
pub use Rattle.shr_base.specs.declared.scripts.CacheDecl.{CacheDecl}
pub use Rattle.shr_base.specs.declared.scripts.Code.{Code}
pub use Rattle.shr_base.specs.declared.scripts.Command.{Command}
pub use Rattle.shr_base.specs.declared.scripts.GroupDecl.{GroupDecl}
pub use Rattle.shr_base.specs.declared.scripts.PoolDecl.{PoolDecl}
pub use Rattle.shr_model.proofs.PiecesLaws.{and_true, cut_first, joined_cut, pieces_joined, pieces_parts}
pub use Rattle.shr_model.specs.Groups.{Hierarchy, is_later}
pub use Rattle.shr_model.specs.Trees.{IsHierarchy}
pub use Rattle.shr_model.specs.Paths.{is_path, parent_path, root_path}
pub use Rattle.shr_model.specs.PieceParts.{left, next_part}
pub use Rattle.shr_model.specs.Pieces.{pieces}
pub use Rattle.shr_words.proofs.ClassLaws.{IsClean, bind_ok, chosen_below, flag_again, flag_is, items_again, items_take, line_parts, no_feed, ok_is, place_takes, policy_again, policy_is, shape_is, words_clean}
pub use Rattle.shr_words.specs.Classes.{AreOf, Chosen, Class, IsOfClass, Item, Kinds, L, N, NameTest, Number, Plain, Policies, PoolKinds, Starts, W, Walks, Word, behind_first, fifth, first, flag_place, fourth, number_said, place_of, policy_place, second, seventh, sixth, third, word_said, words_of, ◌>>=◌}
pub use Rattle.shr_words.specs.WordReading.{item_of, items_said, policy_at, words_left}
pub use Rattle.shr_script.specs.Bounds.{IfServed, IsCache, IsCommandWithin, IsGroup, IsIsolationWithin, IsObjectWithin, IsPool, IsPoolCommandWithin, IsPoolWithin, IsSweepWithin, IsWalkWithin, IsWithin, content_hierarchy, content_later}
pub use Rattle.shr_script.specs.Content.{HaveParentsBefore, Content, IsValid, cache_line, command_line, declarations, end_line, group_line, header_line, lines_of, or_root, pool_line, size_line, spell, sweep_line, sweep_lines, worker_line, worker_command_lines}
pub use Rattle.shr_script.specs.Spelling.{IsSpelling}
pub use Rattle.shr_script.specs.Drafted.{Drafted, Ends, added, cache_decl, command_by, content_by, drafted, empty, kind_step, made_by, part_step, pool_decl, run_from, with_command}
pub use Rattle.shr_script.specs.Lines.{Line, State, after, allowed, cache_class, classes, first_word, group_class, has, is_served, later_class, may_hold_group, misplaced, most_groups, most_ids, node_class, own, pool_class, refused_if, serves_isolation, serves_pools, start, unless, verb_classes}
pub use Rattle.shr_script.specs.LineReading.{as_header}
pub use Rattle.shr_script.specs.Read.{IsCause, ReadsScript, Runs, TellsFault, error_at, run_of}
pub use Rattle.shr_script.specs.Said.{said_state}
pub use Rattle.shr_script.specs.Faults.{Fault, IsFault, at_line, behind, is_last, lines_read, part_verdict, ◌>>>◌}
pub use Rattle.shr_script.specs.Script.{IsLine, IsScript, is_end_read, spell_lines, state_after_lines}
pub use Rattle.shr_script.specs.declared.kind.Kind.{Kind}
pub use Rattle.shr_script.specs.declared.kind.Kind.TheVariants.{Cache, End, Group, Header, Pool, Size, Sweep, Work, Worker}
pub use Rattle.shr_script.specs.declared.kind.Phase.{Phase}
pub use Rattle.shr_script.specs.declared.kind.Phase.TheVariants.{Caches, Done, Groups, Pools, Sizes, Start, Swept, Workers}
pub use Rattle.shr_script.specs.declared.kind.Verb.{Verb}
pub use Rattle.shr_script.specs.declared.kind.Verb.TheVariants.{Balance, Grab, Isolate, MkGroup, Offline, On, Put, Register, Release, Shrink, Unregister}
