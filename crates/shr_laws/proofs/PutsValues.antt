-- SPDX-License-Identifier: GPL-2.0-only
-- Which puts must be added, by values that meet it and values that don't.
use Rattle.shr_laws.proofs.Common.{◌≡◌, ℕ, zero, suc, ◌<◌, [], ◌∷◌, List, codes, slice_get, Some, None, refl, arith, inl, inr, sym, ap, subst, Registered, Unregistered, Begin, Done, Answered, Put, Offline, Script, Report, IsOffline, commands_of, serial_of, IsFreePut, MayHaveBegun, IsOnlyPut, IsUnlimited, StaysOn, StaysOnline, IsAddedOrSpent, AreFreePutsAdded, IsEachAdded, DoPutsAddUp}
use Rattle.shr_base.specs.declared.replies.Reply.TheVariants as reply
use Rattle.shr_base.specs.declared.replies.Spent.TheVariants as spent
use Rattle.shr_model.specs.Groups.{path_within}
use Rattle.shr_laws.proofs.SecondReport.{kept, place, put, target}
use Rattle.shr_laws.proofs.FirstReport.{script, report, answer}
use Rattle.shr_laws.proofs.OverReport as over
use Rattle.shr_laws.proofs.SmallReports.{no_limit}

-- ---- the first report's put: nothing is in its way

-- it is the only one of the script
only : IsOnlyPut script 0 0 1 (codes "k1")
only = record { worker_is = worker; command_is = command } where
  worker : (w j node decl : ℕ) (value : List ℕ) → slice_get (commands_of script w) j ≡ Some (Put (target 1 node decl) (codes "k1") value) → w ≡ 0
  worker zero j node decl value e = refl
  worker (suc w) j node decl value e = absurd (cc)

  command : (w j node decl : ℕ) (value : List ℕ) → slice_get (commands_of script w) j ≡ Some (Put (target 1 node decl) (codes "k1") value) → j ≡ 0
  command w zero node decl value e = refl
  command zero (suc j) node decl value e = absurd (cc)
  command (suc w) (suc j) node decl value e = absurd (cc)

-- its cache is on, and no registration of it ended
stays : StaysOn script report 0
stays = record { on = (0, omega arith, refl); kept = ended } where
  ended : (n id to : ℕ) → slice_get report.pool.items n ≡ Some (Unregistered 0 id to) → ⊥
  ended zero id to e = absurd (cc)
  ended (suc n) id to e = absurd (cc)

free : IsFreePut script report 0 0 1 0 (codes "k1")
free = record { unlimited = λ g above. no_limit script (refl, (refl, tt)) g; there = refl; online = inl refl; cached = stays; only = only }

-- it was added, and so each such put was
added : AreFreePutsAdded script report
added zero zero to key value a c e f = let same : answer ≡ a = cc in subst (λ (x : Answered). IsAddedOrSpent x.reply) same tt
added zero (suc k) to key value a c e f = absurd (cc)
added (suc worker) k to key value a c e f = absurd (cc)

-- ---- what breaks it

-- a report that tells the same put that its object was there already
abbrev exists : Report
exists = record report { workers = kept (record { answers = kept (record answer { reply = reply.Exists (record { place = place; entry = 0 }) } ∷ []); walks = kept []; carries = kept []; plain = kept []; isolations = kept [] } ∷ []) }

not_added : AreFreePutsAdded script exists → ⊥
not_added all = all 0 0 (target 1 0 0) (codes "k1") (codes "v1") (record answer { reply = reply.Exists (record { place = place; entry = 0 }) }) refl refl (record { unlimited = λ g above. no_limit script (refl, (refl, tt)) g; there = refl; online = inl refl; cached = record { on = stays.on; kept = stays.kept }; only = only })

-- the answers that are asked of such a put, and one that isn't
memory_may_lack : IsAddedOrSpent reply.Memory
memory_may_lack = tt

charges_may_be_used_up : IsAddedOrSpent (reply.Worn (spent.Charges 0 0))
charges_may_be_used_up = tt

offline_is_neither : IsAddedOrSpent (reply.Offline 0) → ⊥
offline_is_neither h = h

-- a group with a limit isn't free of one
limited : IsUnlimited over.script 1 → ⊥
unfolding path_within
limited none = absurd (let e : Some 2 ≡ None = none 1 (0, omega arith, refl) in cc)

-- with the same put twice, neither is the only one
abbrev twice : Script
twice = record script { workers = kept (record { commands = kept (put ∷ put ∷ []) } ∷ []) }

not_only : IsOnlyPut twice 0 0 1 (codes "k1") → ⊥
not_only h = absurd (let e : 1 ≡ 0 = h.command_is 0 1 0 0 (codes "v1") refl in omega (arith, e))

-- a cache whose registration ended didn't stay
abbrev ended : Report
ended = record report { pool = kept (Registered 0 0 0 ∷ Unregistered 0 0 1 ∷ []) }

not_stayed : StaysOn script ended 0 → ⊥
not_stayed h = h.kept 1 0 1 refl

-- ---- a group that goes offline

-- what an `offline` of the group is answered, and the journal of it
abbrev done : Answered
done = record { reply = reply.OfflineDone 1 0 0; found = None }

abbrev left : Report → Report
left r = record r { tree = kept (Begin 1 ∷ Done 1 ∷ []) }

-- by the worker's next command
abbrev before : Script
before = record script { workers = kept (record { commands = kept (put ∷ Offline 1 ∷ []) } ∷ []) }

abbrev told_before : Report
told_before = left (record report { workers = kept (record { answers = kept (answer ∷ done ∷ []); walks = kept []; carries = kept []; plain = kept []; isolations = kept [] } ∷ []) })

later : (w k : ℕ) → IsOffline before told_before (serial_of w k) 1 MayHaveBegun → (w ≡ 0) × (0 < k)
later zero zero h = absurd (let no = h.command_is in cc)
later zero (suc k) h = (refl, omega arith)
later (suc w) k h = absurd (let no = h.command_is in cc)

stays_online : StaysOnline before told_before 0 0 1
stays_online = inr (λ by h. later by.worker by.command h)

-- by the command before it
abbrev after : Script
after = record script { workers = kept (record { commands = kept (Offline 1 ∷ put ∷ []) } ∷ []) }

abbrev told_after : Report
told_after = left (record report { workers = kept (record { answers = kept (done ∷ answer ∷ []); walks = kept []; carries = kept []; plain = kept []; isolations = kept [] } ∷ []) })

not_online : StaysOnline after told_after 0 1 1 → ⊥
not_online (inl h) = absurd (let e : Some 0 ≡ None = h in cc)
not_online (inr h) = let t = h (serial_of 0 0) (record { command_is = refl; answer = tt }) in omega (arith, t.1)

-- by another worker
abbrev beside : Script
beside = record script { workers = kept (record { commands = kept (put ∷ []) } ∷ record { commands = kept (Offline 1 ∷ []) } ∷ []) }

abbrev told_beside : Report
told_beside = left (record report { workers = kept (record { answers = kept (answer ∷ []); walks = kept []; carries = kept []; plain = kept []; isolations = kept [] } ∷ record { answers = kept (done ∷ []); walks = kept []; carries = kept []; plain = kept []; isolations = kept [] } ∷ []) })

not_alone : StaysOnline beside told_beside 0 0 1 → ⊥
not_alone (inl h) = absurd (let e : Some 0 ≡ None = h in cc)
not_alone (inr h) = let t = h (serial_of 1 0) (record { command_is = refl; answer = tt }) in omega (arith, t.0)

-- ---- as many objects as puts

each_added : IsEachAdded script report
each_added zero zero to key value a c e = let same : answer ≡ a = cc in (record { place = place; entry = 0 }, ap (λ (x : Answered). x.reply) (sym same))
each_added zero (suc k) to key value a c e = absurd (cc)
each_added (suc worker) k to key value a c e = absurd (cc)

add_up : DoPutsAddUp script report
add_up each = refl

-- a report whose one put was added, and that counts two objects
two_of_one : DoPutsAddUp script (record report { added = 2 }) → ⊥
two_of_one up = absurd (let e : 2 ≡ 1 = up each_added in omega (arith, e))
