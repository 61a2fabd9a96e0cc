-- SPDX-License-Identifier: GPL-2.0-only
-- Known values of how answers are told, and of when the pools are walked.
use Rattle.shr_worker.proofs.Common.{◌≡◌, [], ◌∷◌, List, None, true, false, length, length-append, refl, sym, ap, subst, arith, Object, Place, Serial, Answered, Isolate, Release, Script, PlainState, listed_commands, Isolation, Shared, WorkerState, WalksIf, unfound, release_reply, grab_reply, not, ◌&&◌, ◌==◌, Shrink, Balance, PlainGives, WalksPools, is_due, is_walked, walk_reply, offline_reply, make_reply, register_reply, unregister_reply, objects_drained}
use Rattle.shr_base.specs.declared.scripts.PoolDecl.{PoolDecl}
use Rattle.shr_base.specs.declared.replies.HalfWhy.TheVariants as why
use Rattle.shr_base.specs.declared.replies.Reply.TheVariants as reply
use Rattle.shr_base.specs.declared.walks.WalkAnswer.TheVariants as walk
use Rattle.shr_charge.specs.declared.answers.MakeAnswer.TheVariants as make
use Rattle.shr_offline.specs.declared.answers.OfflineAnswer.TheVariants as offline
use Rattle.shr_plain.specs.declared.answers.GrabAnswer.TheVariants as grab
use Rattle.shr_plain.specs.declared.answers.ReleaseAnswer.TheVariants as release
use Rattle.shr_registry.specs.declared.answers.RegisterAnswer.TheVariants as register
use Rattle.shr_registry.specs.declared.answers.UnregisterAnswer.TheVariants as unregister
use Rattle.shr_worker.specs.Isolating.{RecordGives}

walk_without_memory : walk_reply (walk.Memory 3) ≡ reply.WalkMemory 3
walk_without_memory = refl

offlined : offline_reply (offline.Done 4 10 7) ≡ reply.OfflineDone 4 10 7
offlined = refl

offlined_before : offline_reply (offline.AlreadyDone 4) ≡ reply.AlreadyDone 4
offlined_before = refl

offline_of_unmade : offline_reply (offline.NotMade 3) ≡ reply.NotMade 3
offline_of_unmade = refl

made : make_reply (make.Made 4) ≡ reply.Made 4
made = refl

-- a group that was made before is told by another reply
made_before : make_reply (make.AlreadyMade 4) ≡ reply.Made 4 → ⊥
made_before e = absurd cc

below_offline : make_reply (make.Offline 2) ≡ reply.Offline 2
below_offline = refl

registered : register_reply (register.Registered 1 5) ≡ reply.Registered 1 5
registered = refl

-- two objects are told by their number
two_drained : (a b : Object) → unregister_reply (unregister.Half 1 2 3 4 (record { items = a ∷ b ∷ []; spare = 0 }) why.Memory) ≡ reply.Half 1 2 3 4 2 why.Memory
two_drained a b = refl

none_drained : objects_drained (unregister.NoCache 6) ≡ []
none_drained = refl

-- a worker past the last one has no commands
no_worker : listed_commands None ≡ []
no_worker = refl

-- a pool's units at node 0
abbrev home : Place
home = record { id = 3; node = 0; group = 0 }

full : release_reply home (release.Full 2 20000) ≡ reply.Full 3 0 2 20000
full = refl

none_free : grab_reply home (grab.Bare 4) ≡ reply.Bare 3 0 4
none_free = refl

-- a grab that found none isn't told as one
grabbed_none : grab_reply home (grab.Bare 4) ≡ reply.Grabbed 3 0 4 → ⊥
grabbed_none e = absurd cc

-- a script with a pool, and one without
due : (s : Script) (d : PoolDecl) → s.pools.items ≡ d ∷ [] → is_due s (reply.Walked 0) ≡ true
due s d has = subst (λ (l : List PoolDecl). not (length l == 0) && is_walked (reply.Walked 0) ≡ true) (sym has) refl

not_due : (s : Script) → s.pools.items ≡ [] → is_due s (reply.Walked 0) ≡ false
not_due s none = subst (λ (l : List PoolDecl). not (length l == 0) && is_walked (reply.Walked 0) ≡ false) (sym none) refl

-- walks that memory cut short are followed by none
cut : (s : Script) (d : PoolDecl) → s.pools.items ≡ d ∷ [] → is_due s (reply.WalkMemory 3) ≡ false
cut s d has = subst (λ (l : List PoolDecl). not (length l == 0) && is_walked (reply.WalkMemory 3) ≡ false) (sym has) refl

-- nothing is done at the pools after the walk of a child
after_child : (s : Script) (by : Serial) (a : Answered) (t : PlainState) → PlainGives s by (Shrink 1 0 0 true) a t t
after_child s by a t = refl

-- after a balance a walk is put behind the others, where it is due
no_walk : (s : Script) (by : Serial) (t : PlainState) → WalksPools s by 0 0 t t → ⊥
no_walk s by t w = let more = ap (λ (u : PlainState). length u.walks) w.walked.state in let one = length-append t.walks (w.walked.walk ∷ []) in omega (arith, more, one)

after_balance : (s : Script) (d : PoolDecl) (by : Serial) (t : PlainState) → s.pools.items ≡ d ∷ [] → PlainGives s by (Balance 0 0 true) (unfound (reply.Walked 5)) t t → ⊥
after_balance s d by t has done = no_walk s by t (subst (λ (l : List PoolDecl). WalksIf (not (length l == 0) && is_walked (reply.Walked 5)) s by 0 0 t t) has done)

-- no other command records an isolation
released_none : (x : Shared) (by : Serial) (a : Answered) (s : WorkerState) (is : List Isolation) → RecordGives x by (Release 0 0 1) a s s is is
released_none x by a s is = refl

recorded_by_balance : (x : Shared) (by : Serial) (a : Answered) (s : WorkerState) (i : Isolation) → RecordGives x by (Balance 0 0 true) a s s [] (i ∷ []) → ⊥
recorded_by_balance x by a s i e = absurd (omega (arith, ap (λ (l : List Isolation). length l) e))

-- an isolation that was refused records none
refused_recorded : (x : Shared) (by : Serial) (s t : WorkerState) (i : Isolation) → RecordGives x by (Isolate (record { group = 1; node = 0; decl = 0 }) 5) (unfound reply.Memory) s t [] (i ∷ []) → ⊥
refused_recorded x by s t i h = absurd (omega (arith, ap (λ (l : List Isolation). length l) h.records))
