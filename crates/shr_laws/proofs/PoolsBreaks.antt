-- SPDX-License-Identifier: GPL-2.0-only
-- Changes of the report of two pools, each of which breaks a sentence of the law on pools.
use Rattle.shr_laws.proofs.Common.{◌≡◌, ℕ, ◌<◌, ◌≤◌, ◌^◌, true, false, List, [], ◌∷◌, Some, None, refl, arith, ap, PlaceAmount, UnitsEnd, Place, Answered, Balance, Release, PlainTry, Empty, Ran, PlainWalk, Report, ArePoolsLawful, Skip, PlainJob}
use Rattle.shr_base.specs.declared.journals.PlainEntry.TheVariants as units
use Rattle.shr_base.specs.declared.replies.Reply.TheVariants as reply
use Rattle.shr_base.specs.declared.replies.Spent.TheVariants as spent
use Rattle.shr_base.specs.declared.walks.Ending.TheVariants as ending
use Rattle.shr_base.specs.declared.walks.PlainAnswer.TheVariants.{Walked, Memory}
use Rattle.shr_model.specs.Pass.{due, ask_size}
use Rattle.shr_laws.proofs.SecondReport.{kept, by, unheld}
use Rattle.shr_laws.proofs.PoolsReport.{buf, few, script, place, answers, pass, walk, end, part, report}

-- the report with other ends of pools, other answers or other walks of the pools
abbrev with_ends : List UnitsEnd → Report
with_ends ends = record report { units = kept ends }

abbrev with_answers : List Answered → Report
with_answers answers = record report { workers = kept (record part { answers = kept answers } ∷ []) }

abbrev with_walks : List PlainWalk → Report
with_walks walks = record report { workers = kept (record part { plain = kept walks } ∷ []) }

abbrev with_tries : List PlainTry → Report
with_tries tries = with_walks (record walk { tries = kept tries } ∷ [])

-- ---- journals

-- a journal of a pool, and of a node, that isn't there; one of a flat pool that isn't at its home
no_pool : ArePoolsLawful script (with_ends (record end { pool = 2 } ∷ [])) → ⊥
no_pool h = let low = h.units.0.pool in absurd (omega (arith, low))

no_node : ArePoolsLawful script (with_ends (record end { pool = 1; node = 2 } ∷ [])) → ⊥
no_node h = let low = h.units.0.node in absurd (omega (arith, low))

not_home : ArePoolsLawful script (with_ends (record end { node = 1 } ∷ [])) → ⊥
not_home h = let e : 0 ≡ 1 = ap (λ (p : Place). p.node) h.units.0.home in absurd (omega (arith, e))

-- a unit was grabbed where none was free, and more were reclaimed than were; more than 20,000 are free
grabbed_none : ArePoolsLawful script (with_ends (record end { entries = kept (units.Grab (by 1) true ∷ []) } ∷ [])) → ⊥
grabbed_none h = absurd (let e : true ≡ false = h.units.0.entries.0 in cc)

reclaimed_more : ArePoolsLawful script (with_ends (record end { entries = kept (units.Release (by 0) 10 ∷ units.Reclaim 0 0 18 11 ∷ []) } ∷ [])) → ⊥
reclaimed_more h = let e : 11 ≡ 10 = h.units.0.entries.1.0 in absurd (omega (arith, e))

released_more : ArePoolsLawful script (with_ends (record end { entries = kept (units.Release (by 0) 20000 ∷ units.Release (by 1) 1 ∷ []) } ∷ [])) → ⊥
released_more h = let low = h.units.0.entries.1.0 in absurd (omega (arith, low))

-- a unit more is free than the journal leaves; one journal is printed twice
free_off : ArePoolsLawful script (with_ends (record end { free = 1 } ∷ [])) → ⊥
free_off h = let e : 1 ≡ 0 = h.units.0.free in absurd (omega (arith, e))

printed_twice : ArePoolsLawful script (with_ends (end ∷ end ∷ [])) → ⊥
printed_twice h = let e : 0 ≡ 1 = h.once 0 1 end end refl refl refl in absurd (omega (arith, e))

-- ---- replies

-- a release cites the entry of the grab; a full pool wasn't full; it knew more entries than there are
cites_grab : ArePoolsLawful script (with_answers (unheld (reply.Released 0 0 1) ∷ [])) → ⊥
cites_grab h = absurd (let e = (h.replies (by 0) (Release 1 0 10) _ refl refl).stands in cc)

cites_elsewhere : ArePoolsLawful script (with_answers (unheld (reply.Released 0 1 0) ∷ [])) → ⊥
cites_elsewhere h = let e : 1 ≡ 0 = ap (λ (p : Place). p.node) (h.replies (by 0) (Release 1 0 10) _ refl refl).place in absurd (omega (arith, e))

not_full : ArePoolsLawful script (with_answers (unheld (reply.Full 0 0 0 0) ∷ [])) → ⊥
not_full h = let low = (h.replies (by 0) (Release 1 0 10) _ refl refl).full in absurd (omega (arith, low))

known_more : ArePoolsLawful script (with_answers (unheld (reply.Full 0 0 5 0) ∷ [])) → ⊥
known_more h = let low = (h.replies (by 0) (Release 1 0 10) _ refl refl).there in absurd (omega (arith, low))

free_then : ArePoolsLawful script (with_answers (unheld (reply.Full 0 0 1 20000) ∷ [])) → ⊥
free_then h = let e : 20000 ≡ 10 = (h.replies (by 0) (Release 1 0 10) _ refl refl).counted in absurd (omega (arith, e))

-- a unit was grabbed, and no reply cites it
uncited : ArePoolsLawful script (with_answers (unheld (reply.Released 0 0 0) ∷ unheld reply.Memory ∷ [])) → ⊥
uncited h = absurd (let e : None ≡ Some _ = h.cited place 1 _ refl (by 1) refl in cc)

-- a worker's entries fall; it was told of a full pool that lacked an entry of its own
cites_fall : ArePoolsLawful script (with_answers (unheld (reply.Released 0 0 1) ∷ unheld (reply.Grabbed 0 0 0) ∷ [])) → ⊥
cites_fall h = let low : 1 < 0 = h.rise 0 0 1 place 1 0 (omega arith) refl refl in absurd (omega (arith, low))

full_before : ArePoolsLawful script (with_answers (unheld (reply.Released 0 0 0) ∷ unheld (reply.Grabbed 0 0 1) ∷ unheld (reply.Full 0 0 1 10) ∷ [])) → ⊥
full_before h = let low : 1 < 1 = h.full 0 1 2 place 1 1 10 (omega arith) refl refl in absurd (omega (arith, low))

-- ---- walks of the pools

-- a pool was left out
left_out : ArePoolsLawful script (with_tries (Ran pass ∷ [])) → ⊥
left_out h = let e : 1 ≡ 2 = (h.walks 0 0 _ refl).tries in absurd (omega (arith, e))

-- three tries of two pools, though memory ended it
one_more : ArePoolsLawful script (with_walks (record walk { tries = kept (Ran pass ∷ Empty 0 ∷ Empty 0 ∷ []); answer = Memory 9 } ∷ [])) → ⊥
one_more h = let low : 3 ≤ 2 = (h.walks 0 0 _ refl).tries in absurd (omega (arith, low))

-- a pool that had units was counted empty, and at a version that its journal hasn't reached
not_empty : ArePoolsLawful script (with_tries (Empty 2 ∷ Empty 0 ∷ [])) → ⊥
not_empty h = let e : 0 ≡ 9 = ((h.walks 0 0 _ refl).counts 0 buf _ refl refl).len in absurd (omega (arith, e))

no_version : ArePoolsLawful script (with_tries (Empty 5 ∷ Empty 0 ∷ [])) → ⊥
no_version h = let low = ((h.walks 0 0 _ refl).counts 0 buf _ refl refl).there in absurd (omega (arith, low))

-- a pool was skipped above its floor, and one that had none; one was passed at its floor
skipped_above : ArePoolsLawful script (with_tries (Skip 9 2 ∷ Empty 0 ∷ [])) → ⊥
skipped_above h = let low = ((h.walks 0 0 _ refl).kinds 0 buf _ refl refl).1 in absurd (omega (arith, low))

skipped_none : ArePoolsLawful script (with_tries (Ran pass ∷ Skip 0 0 ∷ [])) → ⊥
skipped_none h = let low = ((h.walks 0 0 _ refl).kinds 1 few _ refl refl).0 in absurd (omega (arith, low))

passed_at_floor : ArePoolsLawful script (with_tries (Ran pass ∷ Ran (record pass { len = 5 }) ∷ [])) → ⊥
passed_at_floor h = let low = (h.walks 0 0 _ refl).kinds 1 few _ refl refl in absurd (omega (arith, low))

-- a pass deferred what it scanned; an ask of it found a list closed; it stopped; it was worn by four entries
deferred_more : ArePoolsLawful script (with_tries (Ran (record pass { next = 9 }) ∷ Empty 0 ∷ [])) → ⊥
deferred_more h = let e : 9 ≡ 0 = ((h.walks 0 0 _ refl).passes 0 buf _ refl refl _ refl).follows.next in absurd (omega (arith, e))

closed_ask : ArePoolsLawful script (with_tries (Ran (record pass { closed = 1 }) ∷ Empty 0 ∷ [])) → ⊥
closed_ask h = let e : 1 ≡ 0 = ((h.walks 0 0 _ refl).passes 0 buf _ refl refl _ refl).closed in absurd (omega (arith, e))

stopped : ArePoolsLawful script (with_tries (Ran (record pass { ending = ending.Stop }) ∷ Empty 0 ∷ [])) → ⊥
stopped h = ((h.walks 0 0 _ refl).passes 0 buf _ refl refl _ refl).ending

worn_early : ArePoolsLawful script (with_tries (Ran (record pass { ending = ending.Worn (spent.List place 4 0) }) ∷ Empty 0 ∷ [])) → ⊥
worn_early h = let e : 4 ≡ 2 ^ 31 = ((h.walks 0 0 _ refl).passes 0 buf _ refl refl _ refl).ending in absurd (omega (arith, e))

-- a pass left no entry; its entries freed another number; one is older than its count
asked_more : ArePoolsLawful script (with_ends (record end { entries = kept (units.Release (by 0) 10 ∷ units.Grab (by 1) true ∷ []) } ∷ [])) → ⊥
unfolding due ask_size
asked_more h = absurd (let e : [] ≡ 18 ∷ [] = ((h.walks 0 0 _ refl).passes 0 buf _ refl refl _ refl).asked in cc)

freed_one : ArePoolsLawful script (with_tries (Ran (record pass { freed = 1 }) ∷ Empty 0 ∷ [])) → ⊥
freed_one h = let e : 9 ≡ 1 = ((h.walks 0 0 _ refl).passes 0 buf _ refl refl _ refl).freed in absurd (omega (arith, e))

older_reclaim : ArePoolsLawful script (with_tries (Ran (record pass { version = 3 }) ∷ Empty 0 ∷ [])) → ⊥
older_reclaim h = let low : 3 ≤ 2 = ((h.walks 0 0 _ refl).passes 0 buf _ refl refl _ refl).later.0 in absurd (omega (arith, low))

-- a pass ended for want of room, and another pool was tried behind it; the walk says that it went through
no_room : ArePoolsLawful script (with_walks (record walk { tries = kept (Ran (record pass { ending = ending.NoRoom }) ∷ Empty 0 ∷ []); answer = Memory 9 } ∷ [])) → ⊥
no_room h = let e : 2 ≡ 1 = ((h.walks 0 0 _ refl).cut 0 buf _ refl refl _ refl refl).last in absurd (omega (arith, e))

not_cut : ArePoolsLawful script (with_tries (Ran (record pass { ending = ending.NoRoom }) ∷ Empty 0 ∷ [])) → ⊥
not_cut h = absurd (let e = ((h.walks 0 0 _ refl).cut 0 buf _ refl refl _ refl refl).cut in cc)

-- the walk says that it freed another number
told_other : ArePoolsLawful script (with_walks (record walk { answer = Walked 8 } ∷ [])) → ⊥
told_other h = let e : 8 ≡ 9 = (h.walks 0 0 _ refl).freed in absurd (omega (arith, e))

-- ---- which walks there are

job_node : List PlainJob → ℕ
job_node [] = 9
job_node (j ∷ js) = j.node

-- a balance has no walk of the pools, two of them, or one on another node; a grab has one
not_walked : ArePoolsLawful script (with_walks []) → ⊥
unfolding job_node
not_walked h = let e : 9 ≡ 1 = ap job_node (h.due (by 3) (Balance 1 0 false) _ refl refl) in absurd (omega (arith, e))

walked_elsewhere : ArePoolsLawful script (with_walks (record walk { node = 0 } ∷ [])) → ⊥
unfolding job_node
walked_elsewhere h = let e : 0 ≡ 1 = ap job_node (h.due (by 3) (Balance 1 0 false) _ refl refl) in absurd (omega (arith, e))

walked_by_grab : ArePoolsLawful script (with_walks (record walk { by = by 4 } ∷ [])) → ⊥
walked_by_grab h = let low = h.commands 0 0 _ refl in absurd (omega (arith, low))

-- the counts of two walks fall; a count knew less than a reply before it cites
versions_fall : ArePoolsLawful script (with_walks (walk ∷ record walk { tries = kept (Empty 1 ∷ []) } ∷ [])) → ⊥
versions_fall h = let low : 2 ≤ 1 = h.versions 0 place 0 0 (omega arith) in absurd (omega (arith, low))

counted_old : ArePoolsLawful script (with_tries (Empty 1 ∷ Empty 0 ∷ [])) → ⊥
counted_old h = let low : 1 < 1 = (h.later 0 0 _ refl 1 1 place (omega arith) refl).0 in absurd (omega (arith, low))

-- units were reclaimed by a walk that isn't there, or that ran no pass
reclaimed_by_none : ArePoolsLawful script (with_walks []) → ⊥
reclaimed_by_none h = h.no_others place 2 (units.Reclaim 0 0 18 9) refl

reclaimed_unpassed : ArePoolsLawful script (with_tries (Empty 0 ∷ Empty 0 ∷ [])) → ⊥
reclaimed_unpassed h = h.no_others place 2 (units.Reclaim 0 0 18 9) refl

-- ---- deferred words

abbrev word : ℕ → PlaceAmount
word amount = record { place = place; amount = amount }

-- a word that no pass gave; one of 0
deferred_by_none : ArePoolsLawful script (record report { pool_deferred = kept (word 1 ∷ []) }) → ⊥
deferred_by_none h = let e : 1 ≡ 0 = h.deferred place in absurd (omega (arith, e))

printed_zero : ArePoolsLawful script (record report { pool_deferred = kept (word 0 ∷ []) }) → ⊥
printed_zero h = let low = h.shown.0 in absurd (omega (arith, low))
