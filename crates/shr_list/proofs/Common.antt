-- SPDX-License-Identifier: GPL-2.0-only
-- The names that the proofs of this crate cite most, passed on from one place. Declares nothing.
pub use Rattle.std.proofs.Common.{Bool, Contains, List, None, Option, Some, [], add-one, ap, append_assoc, arith, cond, drop, drop-cons, false, get_or, inl, inr, is_some, length, length-append, length-drop, map, min, ne_eqb, refl, rules, subst, suc, sym, take, true, zero, ℕ, ◌&&◌, ◌++◌, ◌+◌, ◌-◌, ◌<◌, ◌==◌, ◌∙◌, ◌∷◌, ◌≡◌, ◌≢◌, ◌≤◌, ◌⊎◌}
pub use Rattle.std.proofs.lemmas.Bool.{cases_Bool, cases_eq, eq-eqb, eqb-true, or_parts}
pub use Rattle.std.proofs.lemmas.List.{append-nil, drop_all, length-map, map-append, nil_from_length, take-append-le, take_all}
pub use Rattle.std.proofs.lemmas.Map.Lookups.{exact_bytes}
pub use Rattle.std.specs.HashMap.{UpdatesBy}
pub use Rattle.std.specs.Cmp.Lexicographic.{bytes_decides, slice_cmp}
pub use Rattle.std.specs.List.{AllByRecursion, find, list_any, position, zip}
pub use Rattle.std.specs.Prelude.{Err, IfOk, IsSome, Ok, OnErr, Result, Vec, bytes_eq, if◌then◌else◌, nat_eq, option_map, slice_get}
pub use Rattle.shr_base.specs.declared.items.Node.{Node}
pub use Rattle.shr_base.specs.declared.objects.LruStatus.TheVariants.{Removed, Rotate, Skip, Stop}
pub use Rattle.shr_base.specs.declared.objects.Object.{Object}
pub use Rattle.shr_base.specs.declared.objects.Policy.{Policy}
pub use Rattle.shr_model.proofs.BagLaws.{each_weaker}
pub use Rattle.shr_model.proofs.ObjectLaws.{IsFirstAt_of_position, change_first_none, find_at, find_none, is_some_find, length_after_drop, length_change_first, none_of_position}
pub use Rattle.shr_model.proofs.PiecesLaws.{and_true}
pub use Rattle.shr_model.proofs.ScanLaws.{freed_alike, freed_each, length_scan, resumed, resumed_ends, resumed_freeing, resumed_visit, rotated_then_removed, scan_none, scan_parts, scan_removed, scan_rotated, scan_rotated_last, scan_skipped, scan_spent, scan_stopped, scanned, visits_within}
pub use Rattle.shr_model.specs.Objects.{change_first, fresh, holds, is_named, marked_object, named_in, pinned_object, unmarked_object, without_first}
pub use Rattle.shr_model.specs.Scan.{Scanned, case_of, scan_ends, scan_from, scan_of}
pub use Rattle.slab.specs.Slab.{Slab, Updates, get, slab_len, with_value}
pub use Rattle.shr_list.specs.Clashes.{AddsClash, IsSameClashes, Name, NodesByName, PutsClash, PutsNode, found_clash, is_same, second_at, second_of}
pub use Rattle.shr_list.specs.Known.{AdmitsName, EntersNodes, KnowsNames, LosesName, MovesName}
pub use Rattle.shr_list.specs.Links.{Inserts, IsJoined, IsLinked, IsPath, IsStop, IsStored, Joins, KeepsLinks, KeepsObjects, KeepsOtherObjects, Removes, SetsNext, SetsObject, SetsPrev, next_in, stop_after, nodes_from, nodes_of, object_at, prev_in, prev_of, stops_of}
pub use Rattle.shr_list.specs.Names.{AddsName, AreNewNames, AreStrangers, FitsFound, GainsName, IsCrowded, IsIndexed, KeepsFound, Owns, PutsName, TurnsName, Withdraws, entry_at, in_nodes, name_by, name_in, names_of, owned, print_of}
pub use Rattle.shr_list.specs.Nodes.{AreNodesKept, AtNode, Held, IsApart, IsAt, IsOff, IsQueueWhole, KeepsKeys, Keyed, Queued, bare, first_key, key_at, key_before, key_named, keys_of, last_key, loose_of, objects_of, tags_of, with_mark}
pub use Rattle.shr_list.specs.declared.queue.chain.Chain.{Chain}
pub use Rattle.shr_list.specs.declared.queue.clashes.Added.{Added}
pub use Rattle.shr_list.specs.declared.queue.clashes.Added.TheVariants.{Crowded, Known, New}
pub use Rattle.shr_list.specs.declared.queue.index.Index.{Index}
pub use Rattle.shr_list.specs.declared.queue.index.Index.TheVariants.{Few, GivenUp, Made}
pub use Rattle.shr_list.specs.declared.queue.names.Names.{Names}
