-- SPDX-License-Identifier: GPL-2.0-only
-- Changes of further reports, each of which breaks a sentence.
use Rattle.shr_laws.proofs.Common.{◌≡◌, ◌<◌, ◌≤◌, ℕ, [], ◌∷◌, Option, Some, None, refl, arith, ap, UseStep, Clock, PassRecord, FollowsArithmetic, scans_by, serial_of, journals_of, zero, suc, IsSomeAnd, Closed, Drained, Registered, Unregistered, Begin, Done, Report, reply_at, IsMadeBy, AreJournalsLawful, AreRepliesLawful, AreScansOf, IsStopped, IsLawfulWalk, AreWalksLawful, IsDeferredLawful, IsReply, HasCause, AreCausesLawful, nat_abs, option_map_or, IsOver, IsSpent, Get}
use Rattle.shr_base.specs.declared.replies.HalfWhy.TheVariants as why
use Rattle.shr_base.specs.declared.replies.Reply.TheVariants as reply
use Rattle.shr_base.specs.declared.replies.Spent.TheVariants as spent
use Rattle.shr_base.specs.declared.scripts.Command.TheVariants as command
use Rattle.shr_base.specs.declared.walks.Ending.TheVariants as ending
use Rattle.shr_base.specs.declared.walks.Outcome.TheVariants as outcome
use Rattle.shr_base.specs.declared.walks.WalkAnswer.TheVariants as walk
use Rattle.shr_model.specs.Items.{items_from}
use Rattle.shr_model.specs.Families.{lists_moved, items_within}
use Rattle.shr_model.specs.Pool.{phase_of, decl_from, is_live_below, lowest_free}
use Rattle.shr_laws.proofs.NotLawful.{with_list}
use Rattle.shr_laws.proofs.SecondReport as second
use Rattle.shr_laws.proofs.NotLawful.{with_answers, with_walks}
use Rattle.shr_laws.proofs.ScansReport as scans
use Rattle.shr_laws.proofs.OfflineReport as moves
use Rattle.shr_laws.proofs.OverReport as over
use Rattle.shr_laws.proofs.UnregisterReport as leaves

abbrev pass : ℕ → ℕ → PassRecord
pass freed next = record { len = 2; version = 2; nr = 0; asks = 1; closed = 0; scanned = 4; freed = freed; next = next; ending = ending.Through }

-- the pass says that it freed one of the two
freed_one : AreScansOf 0 scans.cache_0 (pass 1 0) (scans_by 0 1 scans.list_0.entries.items) → ⊥
freed_one h = let e : 2 ≡ 1 = h.freed in absurd (omega (arith, e))

-- its Scan entry was made by another policy
other_policy : AreScansOf 0 (record scans.cache_0 { policy = Clock }) (pass 2 0) (scans_by 0 1 scans.list_0.entries.items) → ⊥
other_policy h = absurd (let e = h.policy.0 in cc)

-- an ask that left no entry
asked_more : AreScansOf 0 scans.cache_0 (record (pass 2 0) { asks = 2 }) (scans_by 0 1 scans.list_0.entries.items) → ⊥
asked_more h = let e : 1 ≡ 2 = h.number in absurd (omega (arith, e))

-- an entry that is older than the pass's count
older_scan : AreScansOf 0 scans.cache_0 (record (pass 2 0) { version = 3 }) (scans_by 0 1 scans.list_0.entries.items) → ⊥
older_scan h = let e = h.later.0 in absurd (omega (arith, e))

-- what is deferred again isn't what is left
deferred_more : FollowsArithmetic 0 2 0 (pass 2 1) → ⊥
deferred_more h = let e : 1 ≡ 0 = h.next in absurd (omega (arith, e))

-- a Stop of a cache that isn't `fs`
stopped_anyhow : IsStopped scans.walk_1 scans.cache_0 (record (pass 2 0) { ending = ending.Stop }) → ⊥
stopped_anyhow h = absurd (let e = (h.exactly.0 refl).0 in cc)

-- a pass without room in a walk that wasn't cut
no_room : IsLawfulWalk scans.script scans.report 0 1 (record scans.walk_1 { attempts = second.kept (record { id = 0; outcome = outcome.Ran 3 (record (pass 2 0) { ending = ending.NoRoom }) } ∷ []) }) → ⊥
no_room h = absurd (let e = (h.memory.1 0 _ _ refl refl refl).cut in cc)

-- an offline walk with a map
offline_with_map : IsLawfulWalk scans.script scans.report 0 1 (record scans.walk_1 { answer = walk.Offline 0 }) → ⊥
offline_with_map h = absurd (let e = (h.offline 0 refl).0 in cc)

-- the map lacks the bit that this worker's put had set, and nobody cleared it
bit_missing : AreWalksLawful second.script (with_walks (second.walk 2 0 [] ∷ second.second_walk ∷ [])) → ⊥
unfolding items_from lists_moved items_within
bit_missing h = absurd (let e = h.bits 0 0 (second.walk 2 0 []) refl 0 0 (record { unit = 0; bits = 0 }) second.place refl (record { group = refl; node = refl; unit = refl }) (omega arith) (record { entry = 0; added = refl; empty = refl }) refl in cc)

-- a count that is older than what an earlier reply of this worker cites
old_count : AreWalksLawful second.script (with_walks (second.walk 2 1 (record { id = 0; outcome = outcome.Cleared 2 1 2 } ∷ []) ∷ second.second_walk ∷ [])) → ⊥
old_count h = let e : 1 < 1 = (h.later 0 0 _ refl 1 1 second.place (omega arith) refl).0 in absurd (omega (arith, e))

-- versions that fall
falling : AreWalksLawful second.script (with_walks (second.walk 2 1 (record { id = 0; outcome = outcome.Cleared 2 2 1 } ∷ []) ∷ second.second_walk ∷ [])) → ⊥
falling h = let e : 2 ≤ 1 = h.versions 0 second.place 0 0 (omega arith) in absurd (omega (arith, e))

-- an Over that cites a refused charge which isn't the last, or another usage
not_last : IsOver over.script over.report (serial_of 0 4) 1 1 26 2 → ⊥
not_last h = let e : 1 ≡ 0 = h.last in absurd (omega (arith, e))

other_usage : IsOver over.script over.report (serial_of 0 4) 1 1 28 3 → ⊥
other_usage h = let e : 2 ≡ 3 = ap (λ (o : Option UseStep). option_map_or (λ (u : UseStep). nat_abs u.found) o 0) h.up in absurd (omega (arith, e))

-- the put names the cache, which was live
live_then : HasCause leaves.script leaves.report (serial_of 0 4) (command.Put (second.target 1 0 0) [] []) (reply.NoCache 4) → ⊥
unfolding is_live_below phase_of decl_from
live_then h = absurd (let e = h.none in cc)

-- a Half whose id became idle, and a Freed that drained one fewer
half_idle : HasCause leaves.script leaves.report (serial_of 0 3) (command.Unregister 0) (reply.Half 0 1 0 3 3 why.Memory) → ⊥
half_idle h = absurd (let e = h.dying in cc)

freed_two : HasCause leaves.script leaves.report (serial_of 0 3) (command.Unregister 0) (reply.Freed 0 1 0 3 2) → ⊥
freed_two h = let e : 2 ≡ 3 = h.unregistered.drained in absurd (omega (arith, e))

-- a register that is refused for want of ids, when one is free
none_free : HasCause leaves.script leaves.report (serial_of 0 6) (command.Register 0) (reply.NoId 3) → ⊥
unfolding lowest_free phase_of
none_free h = absurd (let e = h.ids in cc)

-- the offlining says that it moved three of two, or carried what it didn't
moved_three : HasCause moves.script moves.report (serial_of 0 3) (command.Offline 2) (reply.OfflineDone 1 3 0) → ⊥
moved_three h = let e : 3 ≤ 2 = h.most in absurd (omega (arith, e))

carried_one : HasCause moves.script moves.report (serial_of 0 3) (command.Offline 2) (reply.OfflineDone 1 2 1) → ⊥
carried_one h = let e : 1 ≡ 0 = h.carried in absurd (omega (arith, e))

-- a child that is done isn't in the way
done_child : HasCause moves.script moves.report (serial_of 0 3) (command.Offline 1) (reply.HasChildren 2 2) → ⊥
done_child h = absurd (let e = h.child_is in cc)

-- a lookup is worn long before its numbers end
worn_early : IsSpent second.script second.report 0 (spent.Lookups 0 3) → ⊥
worn_early h = let e = h.0 in absurd (omega (arith, e))

-- the number of entries known falls along a worker
known_falls : AreCausesLawful second.script (with_answers (second.held (reply.Added (record { place = second.place; entry = 0 })) 0
    ∷ record { reply = reply.Dropped (record { place = second.place; entry = 1 }); found = Some (record { id = 0; number = 1; entry = 0 }) } ∷ second.unheld (reply.Walked 0) ∷ second.unheld (reply.Walked 0) ∷ [])) → ⊥
known_falls h = let e : 1 ≤ 0 = h.fresh.pool 0 0 0 (omega arith) in absurd (omega (arith, e))

-- a carry of a `del`
carried_by_del : IsDeferredLawful second.script (record second.report { workers = second.kept (record second.part { carries = second.kept (record { by = second.by 1; place = second.place; amount = 5 } ∷ []) } ∷ []) }) → ⊥
carried_by_del h = absurd (let e = h.carries.0.command in cc)

-- a `get` is answered Worn by charges, which it doesn't make; and a walk is no answer to it
get_spent : IsReply (0 ∷ 0 ∷ []) (journals_of second.report) (second.by 0) (command.On (second.target 1 0 0) [] Get) None (reply.Worn (spent.Charges 1048576 0)) → ⊥
get_spent h = h

-- two replies of one worker cite entries that fall
cites_fall : AreRepliesLawful second.script (with_answers (second.held (reply.Added (record { place = second.place; entry = 1 })) 0 ∷ second.held (reply.Dropped (record { place = second.place; entry = 0 })) 1 ∷ [])) → ⊥
cites_fall h = let e : 1 < 0 = h.rise 0 0 1 second.place 1 0 (omega arith) refl refl in absurd (omega (arith, e))

-- a list is closed, and no group at or above its own began to go offline; nor was it moved into its parent's
closed_alone : AreJournalsLawful second.script (with_list (Closed ∷ []) []) → ⊥
closed_alone h = let e = (h.begun second.place refl).2.1 in absurd (omega (arith, e))

not_moved_in : AreJournalsLawful second.script (with_list (Closed ∷ []) []) → ⊥
not_moved_in h = let e = ((h.paired second.place (omega arith) (omega arith)).0 refl).1 in absurd (omega (arith, e))

-- a group is done, and its list isn't closed
done_open : AreJournalsLawful second.script (record second.report { tree = second.kept (Begin 1 ∷ Done 1 ∷ []) }) → ⊥
done_open h = absurd (let e = h.done second.place (record { id = omega arith; node = omega arith; group = omega arith }) (1, omega arith, refl) in cc)

-- an entry of the journal of registrations that no answer made
abbrev unregistered : Report
unregistered = record second.report { pool = second.kept (Registered 0 0 0 ∷ Unregistered 0 0 3 ∷ []) }

none_made : (worker k : ℕ) → IsSomeAnd (reply_at unregistered (serial_of worker k)) (IsMadeBy unregistered (Unregistered 0 0 3) 1) → ⊥
none_made zero zero h = h
none_made zero (suc zero) h = h
none_made zero (suc (suc zero)) h = h
none_made zero (suc (suc (suc zero))) h = h
none_made zero (suc (suc (suc (suc k)))) h = h
none_made (suc worker) k h = h

made_by_none : AreCausesLawful second.script unregistered → ⊥
made_by_none h = let x = h.pool 1 _ (omega arith) refl in none_made x.0.worker x.0.command x.1

-- a Drained of a `del`
drained_by_del : AreCausesLawful second.script (with_list (Drained (second.by 1) 1 ∷ []) []) → ⊥
drained_by_del h = h.drained second.place 0 _ refl (second.by 1) 1 refl

-- a pass found the list closed, and it isn't
closed_to_pass : AreCausesLawful second.script (with_walks (second.walk 2 1 (record { id = 0; outcome = outcome.Ran 2 (record (pass 0 0) { closed = 1 }) } ∷ []) ∷ second.second_walk ∷ [])) → ⊥
closed_to_pass h = absurd (let e = (h.passes 0 0 _ refl 0 _ refl _ refl).closed (omega arith) in cc)

-- an attempt is worn by few lookups
attempt_worn : AreCausesLawful second.script (with_walks (second.walk 2 1 (record { id = 0; outcome = outcome.Worn 3 } ∷ []) ∷ second.second_walk ∷ [])) → ⊥
attempt_worn h = let e = (h.attempts 0 0 _ refl 0 _ refl 3 refl).0 in absurd (omega (arith, e))

-- a worker that was told that the group is offline walks it afterwards
walked_offline : AreCausesLawful second.script (record (with_answers (second.unheld (reply.Offline 0) ∷ second.unheld (reply.Offline 0) ∷ second.unheld (reply.Offline 0) ∷ second.unheld (reply.Walked 0) ∷ [])) { tree = second.kept (Begin 1 ∷ []) }) → ⊥
walked_offline h = h.fresh.refused 0 2 3 1 (omega arith) refl refl

-- one command carries one place twice
carried_twice : IsDeferredLawful second.script (record second.report {
  workers = second.kept (record second.part {
    carries = second.kept (record { by = second.by 1; place = second.place; amount = 5 } ∷ record { by = second.by 1; place = second.place; amount = 6 } ∷ []);
  } ∷ []);
}) → ⊥
carried_twice h = let e : 0 ≡ 1 = h.once 0 0 1 _ _ refl refl refl refl in absurd (omega (arith, e))

-- a walk that was cut tried an id that no map of it shows
tried_unseen : IsLawfulWalk second.script second.report 0 0 (record (second.walk 2 0 (second.cleared ∷ [])) { answer = walk.Memory 0 }) → ⊥
tried_unseen h = absurd (let e = (h.memory.0 refl).ids (λ z. absurd (omega (arith, z))) in cc)
