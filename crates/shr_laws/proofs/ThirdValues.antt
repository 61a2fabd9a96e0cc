-- SPDX-License-Identifier: GPL-2.0-only
-- What the laws compute of the third report: each number is that of its sentence.
use Rattle.shr_laws.proofs.Common.{◌≡◌, pos, ◌-ℤ◌, true, false, [], ◌∷◌, ◌++◌, map, codes, Some, None, refl, arith, usage_after, ops_by, jobs_of, deferred_word, given_at, FollowsArithmetic, scans_by, job_of, parents_of, limit_of, serial_of, command_at, reply_at, journals_of, items_before, items_left, walks_by, all_walks, uses_at, HasCause, AreScansOf, IsStopped, cache_of, shrink_reply, found_numbers, tried_numbers, IsFoundRight, charged, freed_below, listed_below, printed_at, objects_moved_from, drained_of, taken_at, later_of, places_of, all_carries, IsCarryRight, became_idle}
use Rattle.shr_base.specs.declared.replies.Reply.TheVariants as reply
use Rattle.shr_base.specs.declared.scripts.Command.TheVariants as command
use Rattle.shr_model.specs.Items.{items_from, freed_from, AreOutcomes}
use Rattle.shr_model.specs.Families.{lists_moved, items_within, lists_moved_at, IsPairedAt}
use Rattle.shr_model.specs.Groups.{path_within}
use Rattle.shr_model.specs.Bag.{freed_in}
use Rattle.shr_model.specs.Pass.{due, ask_size}
use Rattle.shr_model.specs.Pool.{decl_at, registrations, end_of, phase_of, decl_from, from_from}
use Rattle.shr_laws.proofs.SecondReport.{dentry, kept}
use Rattle.shr_laws.proofs.ThirdReport.{script, report, place_of, pass, walk, carry, child_entries, parent_entries}

parents : parents_of script ≡ 0 ∷ 0 ∷ 1 ∷ []
parents = refl

all_there : later_of script ≡ false ∷ false ∷ false ∷ []
all_there = refl

-- a group of the script that isn't there at the start; the root always is
one_later : later_of (record script { groups = kept (record { path = codes "/p"; parent = 0; limit = None; later = true } ∷ []) }) ≡ false ∷ true ∷ []
one_later = refl

limit_is : limit_of script 2 ≡ Some 5
limit_is = refl

-- journals: the child's list moved into the parent's and was drained there
child_outcomes : AreOutcomes (lists_moved_at (parents_of script) (journals_of report) (place_of 2)) [] child_entries
unfolding AreOutcomes lists_moved
child_outcomes = (refl, (refl, (refl, (tt, tt))))

parent_outcomes : AreOutcomes (lists_moved_at (parents_of script) (journals_of report) (place_of 1)) [] parent_entries
unfolding AreOutcomes lists_moved items_within items_from
parent_outcomes = (refl, (refl, (refl, tt)))

paired : IsPairedAt (parents_of script) (journals_of report) (place_of 2)
paired = ((λ e. (0, omega arith, refl)), (λ e. refl))

moved_before_drained : map (λ o. o.birth) (items_before script report (place_of 1) 2) ≡ 2 ∷ 2 ∷ 2 ∷ 1 ∷ []
unfolding items_from lists_moved items_within
moved_before_drained = refl

nothing_left : items_left script report (place_of 1) ≡ []
unfolding items_from lists_moved items_within
nothing_left = refl

-- bag: all four were freed
all_freed : map (λ s. s.worker) (freed_in (places_of report) (parents_of script) (journals_of report)) ≡ 0 ∷ 0 ∷ 0 ∷ 1 ∷ []
unfolding items_from freed_from lists_moved items_within
all_freed = refl

-- walks: the pass asked for nothing and deferred two
follows : FollowsArithmetic 1 2 0 pass
unfolding due ask_size
follows = record { made = refl; scanned = refl; next = refl; closed = omega arith }

cache_is : cache_of script report (record { id = 0; outcome = Rattle.shr_base.specs.declared.walks.Outcome.TheVariants.Ran 3 pass }) ≡ Some dentry
unfolding decl_at registrations end_of
cache_is = refl

no_scans : AreScansOf 1 dentry pass (scans_by 0 0 child_entries)
unfolding due ask_size
no_scans = record { asked = refl; number = refl; policy = tt; freed = refl; later = tt }

not_stopped : IsStopped walk dentry pass
unfolding due ask_size
not_stopped = record { exactly = ((λ e. absurd (cc)), (λ h. absurd (let no = h.0 in cc))); none = λ e. absurd (cc) }

its_walk : map job_of (walks_by report (serial_of 0 3)) ≡ jobs_of (parents_of script) 1 [] (command.Shrink 2 0 1 false)
its_walk = refl

told : shrink_reply (walks_by report (serial_of 0 3)) ≡ reply.Walked 0
told = refl

-- lookups: each number once, and all in the one registration
numbers : found_numbers report 0 ++ tried_numbers report 0 ≡ 0 ∷ 1 ∷ 2 ∷ 4 ∷ 3 ∷ []
numbers = refl

found_last : IsFoundRight report 0 (record { id = 0; number = 4; entry = 1 })
unfolding phase_of decl_from from_from end_of
found_last = record { there = omega arith; live = refl; decl_is = refl; from = omega arith; to = refl }

-- charges: the puts charge, the unregistering uncharges what it drained, by birth
put_in_child : usage_after (ops_by (serial_of 0 2) (uses_at report 2)) ≡ pos (charged (parents_of script) 2 (command_at script (serial_of 0 2)) (reply_at report (serial_of 0 2))) -ℤ pos (freed_below script report (serial_of 0 2) 2)
unfolding items_from lists_moved items_within path_within
put_in_child = refl

put_in_parent : usage_after (ops_by (serial_of 1 0) (uses_at report 2)) ≡ pos (charged (parents_of script) 2 (command_at script (serial_of 1 0)) (reply_at report (serial_of 1 0))) -ℤ pos (freed_below script report (serial_of 1 0) 2)
unfolding items_from lists_moved items_within path_within
put_in_parent = refl

drained_of_child : usage_after (ops_by (serial_of 0 5) (uses_at report 2)) ≡ pos 0 -ℤ pos 3
drained_of_child = refl

drained_from_child : freed_below script report (serial_of 0 5) 2 ≡ 3
unfolding items_from lists_moved items_within path_within
drained_from_child = refl

drained_from_root : freed_below script report (serial_of 0 5) 0 ≡ 4
unfolding items_from lists_moved items_within path_within
drained_from_root = refl

none_listed : listed_below script report 0 ≡ 0
unfolding items_from lists_moved items_within path_within
none_listed = refl

no_usage : usage_after (uses_at report 0) ≡ pos 0
no_usage = refl

-- deferred: what the pass deferred at the child was carried to the parent
word_of_child : printed_at report (place_of 2) ≡ deferred_word (given_at (parents_of script) (all_walks report) (all_carries report) (place_of 2)) (taken_at (all_walks report) (all_carries report) (place_of 2))
word_of_child = refl

word_of_parent : printed_at report (place_of 1) ≡ deferred_word (given_at (parents_of script) (all_walks report) (all_carries report) (place_of 1)) (taken_at (all_walks report) (all_carries report) (place_of 1))
word_of_parent = refl

carried : IsCarryRight script report carry
carried = record { there = record { id = omega arith; node = omega arith; group = omega arith }; command = refl; answer = tt }

-- causes: what the offlining moved and carried, and what the unregistering drained
offlined : HasCause script report (serial_of 0 4) (command.Offline 2) (reply.OfflineDone 1 3 2)
offlined = record { made = refl; carried = refl; most = omega arith; whole = λ alone. refl }

moved_three : objects_moved_from report 2 ≡ 3
moved_three = refl

drained_four : drained_of report (serial_of 0 5) ≡ 4
drained_four = refl

idle_then : became_idle report 0 1 ≡ true
idle_then = refl
