-- SPDX-License-Identifier: GPL-2.0-only
-- The names that the proofs of this crate cite most, passed on from one place. Declares nothing.
pub use Rattle.std.proofs.Common.{Bool, List, None, Option, Some, T, [], ap, append_assoc, arith, cond, drop, eq-eqb, eqb, false, filter, get_or, inl, inr, is_some, le-leb, leb, length, length-append, lit<, lit≤, ltb, map, min, not, refl, replicate, set, subst, suc, sum, sym, take, true, zero, ℕ, ⊎_elim, ◌&&◌, ◌*◌, ◌++◌, ◌+◌, ◌-◌, ◌/◌, ◌<◌, ◌||◌, ◌∙◌, ◌∷◌, ◌≡◌, ◌≢◌, ◌≤◌, ◌⊎◌}
pub use Rattle.std.proofs.lemmas.Bool.{and_from, and_parts, both_ways, cases_Bool, cases_lt, cond_both, eqb-false, eqb-true, ne_eqb, or_parts}
pub use Rattle.std.proofs.lemmas.Bool.Decides.{nat_tests}
pub use Rattle.std.proofs.lemmas.List.{append-nil, get_or-set_other, get_or-set_same, get_or_append_left, get_or_push, length-map, length-set, length_push, map-append, map-id, same_lists, take-append-le, take-replicate, take_all, take_rest}
pub use Rattle.std.proofs.lemmas.List.Sorted.{IsPermutation-append, IsPermutation-append_comm, IsPermutation-append_left, IsPermutation-append_right, IsPermutation-cons, IsPermutation-map, IsPermutation-middle, IsPermutation-refl, IsPermutation-sym, IsPermutation-to_front, IsPermutation-trans, length_permutation}
pub use Rattle.std.proofs.lemmas.List.Sums.{take_while-cons}
pub use Rattle.std.specs.List.{AllAdjacentBelow, AllByRecursion, list_all, prefix_len, range_with_len}
pub use Rattle.std.specs.Prelude.{AllPairs, Contains, IsPermutation, codes, find, flat_map, if◌then◌else◌, nat_le, nat_lt, pos, slice_get, ℤ, ◌==◌, ◌^◌}
pub use Rattle.shr_base.specs.declared.journals.Entry.{Entry}
pub use Rattle.shr_base.specs.declared.journals.Entry.TheVariants.{Add, Closed, Drained, Drop, Look, MovedIn, Pin, Scan}
pub use Rattle.shr_base.specs.declared.journals.PoolEntry.{PoolEntry}
pub use Rattle.shr_base.specs.declared.journals.PoolEntry.TheVariants.{Idle, Registered, Unregistered}
pub use Rattle.shr_base.specs.declared.journals.TreeEntry.{TreeEntry}
pub use Rattle.shr_base.specs.declared.journals.TreeEntry.TheVariants.{Begin, Done, Made}
pub use Rattle.shr_base.specs.declared.journals.UseStep.{UseStep}
pub use Rattle.shr_base.specs.declared.objects.LruStatus.{LruStatus}
pub use Rattle.shr_base.specs.declared.objects.LruStatus.TheVariants.{Removed, Rotate, Skip}
pub use Rattle.shr_base.specs.declared.objects.Object.{Object}
pub use Rattle.shr_base.specs.declared.objects.Policy.{Policy}
pub use Rattle.shr_base.specs.declared.objects.Policy.TheVariants.{Clock, Halt, Plain}
pub use Rattle.shr_base.specs.declared.places.Place.{Place}
pub use Rattle.shr_base.specs.declared.places.Serial.{Serial}
pub use Rattle.shr_base.specs.declared.walks.Ending.TheVariants.{NoRoom, Stop, Through, Worn}
pub use Rattle.shr_model.specs.Bag.{added_by, added_by_all, added_in, freed_at, freed_in, listed_in, serials_of}
pub use Rattle.shr_model.specs.Bits.{ids_in, is_set, set_bits_of, units_of}
pub use Rattle.shr_model.specs.Charges.{AreTakenBack, IsBelow, IsChargeHistory, IsDownNext, IsNextUse, is_refused, usage_after}
pub use Rattle.shr_model.specs.Families.{Family, IsAllowed, IsBornAt, IsLegal, IsPaired, MayStand, before_closed, items_at, items_given, items_of, lists_moved_at, moved_in, without_child}
pub use Rattle.shr_model.specs.Groups.{Hierarchy, IsAtOrAbove, children_of, is_child, is_later, parent_of, path_of, preorder_of}
pub use Rattle.shr_model.specs.Trees.{IsHierarchy, IsTree, depth_of}
pub use Rattle.shr_model.specs.Items.{HasJournal, IsOpenBeforeEach, IsOutcome, after_drop, drop_kind_of, dropped_of, first_moved, freed_by, is_closed, is_closing, later_moved, step}
pub use Rattle.shr_model.specs.Objects.{change_first, fresh, holds, is_named, marked_object, named_in, pinned_object, unmarked_object, without_first}
pub use Rattle.shr_model.specs.Pass.{FollowsArithmetic, batch_of, delta_of, due_asks, next_of, total_of}
pub use Rattle.shr_model.specs.PassSteps.{ask_of}
pub use Rattle.shr_model.specs.Places.{at_group, bit_of, is_place, unit_of}
pub use Rattle.shr_model.specs.PlaceNumbers.{place_number}
pub use Rattle.shr_model.specs.Pool.{IsNextPool, IsPoolJournal}
pub use Rattle.shr_model.specs.Scan.{Scanned, after_freeing, after_visit, case_of, scan_ends, scan_of}
pub use Rattle.shr_model.specs.TenantEntries.{AreTenant, birth_of, is_tenant}
pub use Rattle.shr_model.specs.Tenants.{by_of}
pub use lib.ListN.{get_elem?}
pub use mathlib.Core.Option.{some, some-injective, some-ne-none}
