-- SPDX-License-Identifier: GPL-2.0-only
-- The parts of a report at the values of the second whole one.
use Rattle.shr_laws.proofs.Common.{◌≡◌, pos, ◌-ℤ◌, true, false, [], ◌∷◌, ◌++◌, map, codes, Some, refl, fresh, usage_after, ops_by, jobs_of, job_of, versions_at, given_at, parents_of, command_at, reply_at, walks_by, items_before, items_left, uses_at, cited_at, at, cache_of, was_cleared, shrink_reply, found_numbers, tried_numbers, charged, freed_below, listed_below, is_set_at, ids_seen, decls_on}
use Rattle.shr_base.specs.declared.replies.Reply.TheVariants as reply
use Rattle.shr_model.specs.Items.{items_from, freed_from}
use Rattle.shr_model.specs.Families.{lists_moved, items_within}
use Rattle.shr_model.specs.Groups.{path_within}
use Rattle.shr_model.specs.Pool.{decl_at, registrations, end_of}
use Rattle.shr_laws.proofs.SecondReport.{script, report, by, place, shrink, dentry, first_walk, second_walk, cleared}

parents : parents_of script ≡ 0 ∷ 0 ∷ []
parents = refl

on : decls_on script ≡ 0 ∷ []
on = refl

third_command : command_at script (by 2) ≡ Some shrink
third_command = refl

second_cites : cited_at report (by 1) ≡ Some (at place 1)
second_cites = refl

walks_of_third : walks_by report (by 2) ≡ first_walk ∷ []
walks_of_third = refl

job_of_third : map job_of (walks_by report (by 2)) ≡ jobs_of (parents_of script) 1 [] shrink
job_of_third = refl

told_of_third : shrink_reply (walks_by report (by 2)) ≡ reply.Walked 0
told_of_third = refl

first_seen : ids_seen first_walk ≡ 0 ∷ []
first_seen = refl

second_seen : ids_seen second_walk ≡ []
second_seen = refl

cleared_there : was_cleared report place ≡ true
cleared_there = refl

versions_there : versions_at place first_walk ≡ 2 ∷ 2 ∷ []
versions_there = refl

object_after_add : items_before script report place 1 ≡ fresh (by 0) 1 (codes "k1") (codes "v1") ∷ []
unfolding items_from lists_moved items_within
object_after_add = refl

nothing_left : items_left script report place ≡ []
unfolding items_from lists_moved items_within
nothing_left = refl

met_dentry : cache_of script report cleared ≡ Some dentry
unfolding decl_at registrations end_of
met_dentry = refl

numbers : found_numbers report 0 ++ tried_numbers report 0 ≡ 0 ∷ 1 ∷ 2 ∷ []
numbers = refl

-- the put charged one object to its group and the root, and the del freed it from both
put_charged : charged (parents_of script) 0 (command_at script (by 0)) (reply_at report (by 0)) ≡ 1
unfolding path_within
put_charged = refl

del_charged : charged (parents_of script) 1 (command_at script (by 1)) (reply_at report (by 1)) ≡ 0
del_charged = refl

del_freed : freed_below script report (by 1) 0 ≡ 1
unfolding items_from freed_from lists_moved items_within path_within
del_freed = refl

del_used : usage_after (ops_by (by 1) (uses_at report 1)) ≡ (pos 0 -ℤ pos 1)
del_used = refl

none_listed : listed_below script report 0 ≡ 0
unfolding items_from lists_moved items_within path_within
none_listed = refl

nothing_given : given_at (parents_of script) (first_walk ∷ second_walk ∷ []) [] place ≡ 0
nothing_given = refl

bit_is_clear : is_set_at report place ≡ false
bit_is_clear = refl
