-- SPDX-License-Identifier: GPL-2.0-only
-- Changes that break what the others leave: of the journals' tables, of charges and of freshness.
use Rattle.shr_laws.proofs.Common.{◌≡◌, ◌<◌, ◌≤◌, ◌≢◌, ℕ, zero, suc, true, [], ◌∷◌, codes, Some, refl, IsSomeAnd, arith, Add, Registered, Unregistered, Idle, Begin, Done, Report, serial_of, command_at, reply_at, AreRepliesLawful, IsLawfulWalk, AreLookupsLawful, AreChargesLawful, IsDeferredLawful, IsOffline, is_done_by, HasCause, AreCausesLawful, IsBagLawful, MayHaveSpliced}
use Rattle.shr_base.specs.declared.replies.Reply.TheVariants as reply
use Rattle.shr_base.specs.declared.scripts.Command.TheVariants as command
use Rattle.shr_base.specs.declared.walks.GoneThen.TheVariants as gone
use Rattle.shr_base.specs.declared.walks.Outcome.TheVariants as outcome
use Rattle.shr_base.specs.declared.walks.WalkAnswer.TheVariants as walk
use Rattle.shr_model.specs.Bag.{AreDistinct}
use Rattle.shr_model.specs.Groups.{path_within}
use Rattle.shr_model.specs.Items.{items_from}
use Rattle.shr_model.specs.Families.{lists_moved, items_within}
use Rattle.shr_model.specs.Pool.{phase_of, decl_from, decl_at, registrations, end_of, is_live_below}
use Rattle.shr_laws.proofs.SecondReport as second
use Rattle.shr_laws.proofs.NotLawful.{with_answers, with_walks, with_list, no_offline}
use Rattle.shr_laws.proofs.OfflineReport as moves
use Rattle.shr_laws.proofs.OverReport as over

-- another version
other_version : AreRepliesLawful second.script (record second.report { version = 2 }) → ⊥
other_version h = let e : 2 ≡ 1 = h.version in absurd (omega (arith, e))

-- another size
two_nodes : AreRepliesLawful second.script (record second.report { nodes = 2 }) → ⊥
two_nodes h = let e : 2 ≡ 1 = h.nodes in absurd (omega (arith, e))

-- one command added two objects
added_twice : IsBagLawful second.script (with_list (Add (second.by 0) 1 true (codes "k1") [] ∷ Add (second.by 0) 1 true (codes "k2") [] ∷ []) []) → ⊥
unfolding AreDistinct
added_twice h = h.bag.distinct.0.0 refl

-- a map in a walk of the root
root_map : IsLawfulWalk second.script second.report 0 0 (record second.first_walk { group = 0 }) → ⊥
root_map h = absurd (let e = (h.root refl).0 in cc)

-- a declaration is registered while it is live
registered_twice : AreLookupsLawful second.script (record second.report { pool = second.kept (Registered 0 0 0 ∷ Registered 0 0 0 ∷ []) }) → ⊥
unfolding is_live_below phase_of decl_from
registered_twice h = absurd (let e = (h.pool 1 (Registered 0 0 0) refl).1 in cc)

-- the lookups of an id aren't printed
not_printed : AreLookupsLawful second.script (record second.report { lookups = second.kept [] }) → ⊥
not_printed h = let e : 0 ≡ 1 = h.printed in absurd (omega (arith, e))

-- a lookup that lies in a registration was gone
gone_in_registration : AreLookupsLawful second.script (with_walks (second.walk 2 1 (record { id = 0; outcome = outcome.Gone 2 gone.Clear } ∷ []) ∷ second.second_walk ∷ [])) → ⊥
unfolding decl_at registrations end_of
gone_in_registration h = absurd (let e = h.met 0 0 _ refl 0 _ refl 2 refl in cc)

-- a cache was found before it was live
found_early : AreLookupsLawful second.script (with_answers (record { reply = reply.Memory; found = Some (record { id = 0; number = 0; entry = 0 }) } ∷ [])) → ⊥
unfolding phase_of
found_early h = absurd (let e = (h.found (second.by 0) second.put _ refl refl 0 _ refl refl).live in cc)

-- an idle id has an object
idle_with_object : AreLookupsLawful second.script (record (with_list (Add (second.by 0) 1 true (codes "k1") [] ∷ []) []) { pool = second.kept (Registered 0 0 0 ∷ Unregistered 0 0 3 ∷ Idle 0 ∷ []) }) → ⊥
unfolding items_from lists_moved items_within phase_of
idle_with_object h = absurd (let e = h.idle second.place refl in cc)

-- a refused charge that wasn't taken back
not_taken_back : AreChargesLawful over.script (record over.report { uses = second.kept (second.use_step 1 0 true 2 4 ∷ []) }) → ⊥
not_taken_back h = h.taken_back 1 0 _ refl refl (λ z. omega (arith, z))

-- two charges of one command in a row
charged_twice : AreChargesLawful second.script (record second.report { uses = second.kept (second.use_step 1 0 true 0 0 ∷ second.use_step 1 1 true 1 0 ∷ []) }) → ⊥
charged_twice h = let e = h.between (second.by 0) 1 0 1 (omega arith) refl refl in absurd (omega (arith, e.1, e.2))

-- a charge of a group that isn't there
charged_nowhere : AreChargesLawful second.script (record second.report { uses = second.kept (second.use_step 7 0 true 0 0 ∷ []) }) → ⊥
charged_nowhere h = let e = h.there.0 in absurd (omega (arith, e))

-- the usage at the end isn't what is listed
usage_off : AreChargesLawful second.script (with_list (Add (second.by 0) 1 true (codes "k1") [] ∷ []) []) → ⊥
unfolding items_from lists_moved items_within path_within
usage_off h = absurd (let e = h.final 1 (omega arith) in cc)

-- a group is done before it began
done_before : AreChargesLawful second.script (record second.report { tree = second.kept (Done 1 ∷ []) }) → ⊥
done_before h = absurd (let e = (h.tree 0 (Done 1) refl).begun in cc)

-- a word of 0 is printed
printed_zero : IsDeferredLawful second.script (record second.report { deferred = second.kept (record { place = second.place; amount = 0 } ∷ []) }) → ⊥
printed_zero h = let e = h.shown.0 in absurd (omega (arith, e))

-- a walk found its group offline, and it never began
walk_offline : AreCausesLawful second.script (with_walks (record second.second_walk { answer = walk.Offline 0 } ∷ [])) → ⊥
walk_offline h = absurd (let e = h.walks 0 0 _ refl 0 refl in cc)

-- a Done that no answer cites
abbrev done : Report
done = record second.report { tree = second.kept (Begin 1 ∷ Done 1 ∷ []) }

none_done : (worker k : ℕ) → IsSomeAnd (reply_at done (serial_of worker k)) (λ x. is_done_by 1 x ≡ true) → ⊥
none_done zero zero h = absurd (cc)
none_done zero (suc zero) h = absurd (cc)
none_done zero (suc (suc zero)) h = absurd (cc)
none_done zero (suc (suc (suc zero))) h = absurd (cc)
none_done zero (suc (suc (suc (suc k)))) h = h
none_done (suc worker) k h = h

done_by_none : AreCausesLawful second.script done → ⊥
done_by_none h = let x = h.dones 1 1 refl in none_done x.by.worker x.by.command x.cited

-- entries known that aren't above what the worker made, or was shown, or knew before
knew_less : AreCausesLawful second.script (with_answers (second.unheld (reply.Registered 0 1) ∷ second.unheld (reply.NoCache 1) ∷ [])) → ⊥
knew_less h = let e : 1 < 1 = (h.fresh.pool_own 0 0 1 (omega arith)).0.0 in absurd (omega (arith, e))

shown_later : AreCausesLawful second.script (with_answers (second.unheld (reply.Offline 0) ∷ second.unheld (reply.HasChildren 2 0) ∷ [])) → ⊥
shown_later h = let e : 0 < 0 = (h.fresh.tree_shown 0 0 1 (omega arith)).0.0 in absurd (omega (arith, e))

children_fall : AreCausesLawful second.script (with_answers (second.unheld (reply.HasChildren 2 5) ∷ second.unheld (reply.HasChildren 2 3) ∷ [])) → ⊥
children_fall h = let e : 5 ≤ 3 = h.fresh.tree 0 0 0 (omega arith) in absurd (omega (arith, e))

-- a group is offline to a worker, and no other worker may have begun it
shown_unbegun : AreCausesLawful second.script (record (with_answers (second.unheld (reply.Offline 0) ∷ [])) { tree = second.kept (Begin 1 ∷ []) }) → ⊥
shown_unbegun h = absurd (let e = h.fresh.first 0 0 1 (λ x o. absurd (no_offline x.worker x.command 1 o.command_is)) in cc)

-- nobody else spliced the group, and the offlining says that it moved one of two
none_spliced : (worker k : ℕ) → IsOffline moves.script moves.report (serial_of worker k) 2 MayHaveSpliced → ⊥
none_spliced zero zero h = absurd (let e = h.command_is in cc)
none_spliced zero (suc zero) h = absurd (let e = h.command_is in cc)
none_spliced zero (suc (suc zero)) h = absurd (let e = h.command_is in cc)
none_spliced zero (suc (suc (suc zero))) h = h.answer
none_spliced zero (suc (suc (suc (suc zero)))) h = absurd (let e = h.command_is in cc)
none_spliced zero (suc (suc (suc (suc (suc k))))) h = absurd (let e = h.command_is in cc)
none_spliced (suc worker) k h = absurd (let e = h.command_is in cc)

one_worker : (worker k group : ℕ) → worker ≢ 0 → command_at moves.script (serial_of worker k) ≡ Some (command.Offline group) → ⊥
one_worker zero k group other e = other refl
one_worker (suc worker) k group other e = absurd (cc)

moved_one : HasCause moves.script moves.report (serial_of 0 3) (command.Offline 2) (reply.OfflineDone 1 1 0) → ⊥
moved_one h = let e : 1 ≡ 2 = h.whole (record { here = λ x other o. none_spliced x.worker x.command o; above = λ x g other below at o. one_worker x.worker x.command g other o.command_is }) in absurd (omega (arith, e))
