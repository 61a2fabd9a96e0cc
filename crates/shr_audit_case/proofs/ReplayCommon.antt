-- SPDX-License-Identifier: GPL-2.0-only
-- The names that the proofs of this crate cite most, passed on from one place. Declares nothing.
pub use Rattle.std.proofs.Common.{Bool, List, None, Option, Some, [], ap, append-nil, append_assoc, arith, cond, drop, eq-eqb, false, inl, inr, length, length-append, length-set, map, refl, set, subst, suc, sym, true, zero, ℕ, ⊎_elim, ◌++◌, ◌+◌, ◌-◌, ◌<◌, ◌∙◌, ◌∷◌, ◌≡◌, ◌≢◌, ◌≤◌, ◌⊎◌}
pub use Rattle.std.proofs.lemmas.Bool.{cases_Bool, eqb-true, ltb-false, ltb-true, ne_eqb}
pub use Rattle.std.proofs.lemmas.List.{drop_all, drop_more, get_or-set_other, get_or-set_same, get_or_past, length-map, map-append}
pub use Rattle.std.specs.Bool.{Decides}
pub use Rattle.std.specs.Prelude.{if◌then◌else◌, is_none, nat_lt, not, option_copied, slice_get, slice_index, slice_index_or, slice_set, ◌&&◌, ◌==◌, ◌||◌, ◌↔◌}
pub use Rattle.shr_base.specs.declared.journals.Entry.{Entry}
pub use Rattle.shr_base.specs.declared.journals.Entry.TheVariants.{Add, Closed, Drained, Drop, Look, MovedIn, Pin, Scan}
pub use Rattle.shr_base.specs.declared.objects.Object.{Object}
pub use Rattle.shr_base.specs.declared.places.Place.{Place}
pub use Rattle.shr_list.specs.Nodes.{AtNode, IsAt, Keyed, Queued, first_key, objects_of}
pub use Rattle.shr_model.specs.Families.{Family, before_closed, child_of, without_child}
pub use Rattle.shr_model.specs.MovedItems.{moved_by}
pub use Rattle.shr_model.specs.Trees.{IsTree}
pub use Rattle.shr_model.specs.Groups.{is_child, parent_of}
pub use Rattle.shr_model.specs.Places.{at_group}
pub use Rattle.shr_audit_case.specs.Groups.{AreJournals, ArePrinted, AreReplayed, IsReplayedAt, printed_entries, printed_items}
pub use Rattle.shr_audit_case.specs.Journals.{IsReplayed, given_from}
pub use Rattle.shr_audit_case.specs.Replayed.{KeepsOthers, given_by, no_queue, took_after, took_of}
pub use Rattle.shr_audit_case.specs.Tags.{freed_tag, tag_of}
pub use Rattle.shr_audit_case.specs.declared.journal.Replayed.{Replayed}
pub use Rattle.shr_audit_case.specs.declared.tags.FreedTag.{FreedTag}
pub use Rattle.shr_audit_case.specs.declared.tags.Tag.{Tag}
