-- SPDX-License-Identifier: GPL-2.0-only
-- Changes of the second whole report, each of which breaks a sentence.
use Rattle.shr_laws.proofs.Common.{◌≡◌, ℕ, zero, suc, true, false, List, [], ◌∷◌, codes, Some, None, refl, arith, Object, Plain, Entry, Add, Scan, Registered, Begin, Reply, Answered, Walked, WalkRecord, fresh, Report, Offline, command_at, serial_of, AreRepliesLawful, AreJournalsLawful, AreWalksLawful, AreLookupsLawful, AreChargesLawful, IsDeferredLawful, AreBitsLawful, AreCausesLawful, IsBagLawful}
use Rattle.shr_base.specs.declared.replies.Reply.TheVariants as reply
use Rattle.shr_base.specs.declared.walks.Outcome.TheVariants as outcome
use Rattle.shr_model.specs.Items.{items_from, freed_from}
use Rattle.shr_model.specs.Families.{lists_moved, items_within}
use Rattle.shr_model.specs.Groups.{path_within}
use Rattle.shr_model.specs.Pool.{phase_of}
use Rattle.shr_laws.proofs.SecondReport.{kept, script, report, part, by, place, put, del, shrink, held, unheld, walk, cleared, first_walk, second_walk, entries, use_step}

-- the report with other parts
abbrev pub with_answers : List Answered → Report
with_answers answers = record report { workers = kept (record part { answers = kept answers } ∷ []) }

-- the report with these walks
abbrev pub with_walks : List WalkRecord → Report
with_walks ws = record report { workers = kept (record part { walks = kept ws } ∷ []) }

-- the report with this journal and these items of its one list
abbrev pub with_list : List Entry → List Object → Report
with_list es items = record report { places = kept (record { place = place; entries = kept es; items = kept items } ∷ []) }

abbrev added : Reply
added = reply.Added (record { place = place; entry = 0 })

abbrev dropped : Reply
dropped = reply.Dropped (record { place = place; entry = 1 })

abbrev walked : Answered
walked = unheld (reply.Walked 0)

-- an object was added, and the command had found no cache
not_found : AreRepliesLawful script (with_answers (unheld added ∷ held dropped 1 ∷ walked ∷ walked ∷ [])) → ⊥
not_found h = h.answered (by 0) put (unheld added) refl refl

-- the cache was found with another id than the place's
found_elsewhere : AreRepliesLawful script (with_answers (record { reply = added; found = Some (record { id = 1; number = 0; entry = 1 }) } ∷ held dropped 1 ∷ walked ∷ walked ∷ [])) → ⊥
found_elsewhere h = let e : 0 ≡ 1 = (h.answered (by 0) put _ refl refl).id_is in absurd (omega (arith, e))

-- an answer is lacking
too_few : AreRepliesLawful script (with_answers (held added 0 ∷ held dropped 1 ∷ walked ∷ [])) → ⊥
too_few h = let e : 3 ≡ 4 = h.counts 0 in absurd (omega (arith, e))

-- an entry is cited by no reply
uncited : AreRepliesLawful script (with_answers (held added 0 ∷ unheld reply.Memory ∷ walked ∷ walked ∷ [])) → ⊥
uncited h = absurd (let e : None ≡ Some _ = h.cited place 1 _ refl (by 1) refl in cc)

-- the object is listed though it was dropped
listed_still : AreJournalsLawful script (with_list entries (fresh (by 0) 1 (codes "k1") (codes "v1") ∷ [])) → ⊥
unfolding items_from lists_moved items_within
listed_still h = absurd (let e = h.items 0 _ refl in cc)

-- a list of a node that isn't there
no_node : AreJournalsLawful script (record report { places = kept (record { place = record place { node = 3 }; entries = kept entries; items = kept [] } ∷ []) }) → ⊥
no_node h = let e = (h.there 0 _ refl).node in absurd (omega (arith, e))

-- the total line counts one more
total_off : IsBagLawful script (record report { freed = 2 }) → ⊥
unfolding items_from freed_from lists_moved items_within
total_off h = let e : 2 ≡ 1 = h.freed in absurd (omega (arith, e))

-- a set bit of the map was not tried
untried : AreWalksLawful script (with_walks (walk 2 1 [] ∷ second_walk ∷ [])) → ⊥
untried h = absurd (let e = ((h.each 0 0 (walk 2 1 []) refl).mapped 0 refl (λ z. absurd (omega (arith, z)))).1 in cc)

-- the walk says that it freed an object
freed_none : AreWalksLawful script (with_walks (record first_walk { answer = Walked 1 } ∷ second_walk ∷ [])) → ⊥
freed_none h = let e : 1 ≡ 0 = (h.each 0 0 _ refl).freed in absurd (omega (arith, e))

-- the list was counted empty when it had an object
not_empty : AreWalksLawful script (with_walks (walk 2 1 (record { id = 0; outcome = outcome.Cleared 2 1 2 } ∷ []) ∷ second_walk ∷ [])) → ⊥
unfolding items_from lists_moved items_within
not_empty h = let e : 0 ≡ 1 = ((h.each 0 0 _ refl).counts 0 _ refl).0.len in absurd (omega (arith, e))

-- a version that the journal hasn't got
no_version : AreWalksLawful script (with_walks (walk 2 1 (record { id = 0; outcome = outcome.Cleared 2 2 3 } ∷ []) ∷ second_walk ∷ [])) → ⊥
no_version h = let e = ((h.each 0 0 _ refl).counts 0 _ refl).1.0.there in absurd (omega (arith, e))

-- an outcome of the root in another group
misplaced : AreWalksLawful script (with_walks (walk 2 1 (record { id = 0; outcome = outcome.Empty 2 2 } ∷ []) ∷ second_walk ∷ [])) → ⊥
misplaced h = let e : 1 ≡ 0 = (h.each 0 0 _ refl).placed 0 _ refl in absurd (omega (arith, e))

-- a skip of an empty list
skipped_none : AreWalksLawful script (with_walks (walk 2 1 (record { id = 0; outcome = outcome.Skip 2 0 2 } ∷ []) ∷ second_walk ∷ [])) → ⊥
unfolding phase_of Rattle.shr_model.specs.Pool.decl_at Rattle.shr_model.specs.Pool.registrations Rattle.shr_model.specs.Pool.end_of
skipped_none h = let e = ((h.each 0 0 _ refl).kinds 0 _ refl refl).0 in absurd (omega (arith, e))

-- a Scan entry of no pass
scanned_by_none : AreWalksLawful script (with_list (Scan 0 0 4 Plain 0 0 false ∷ entries) []) → ⊥
scanned_by_none h = let e = h.no_others place 0 _ refl (omega arith) in absurd (omega (arith, e))

-- a walk of a command that has none
walked_by_put : AreWalksLawful script (with_walks (walk 1 1 (cleared ∷ []) ∷ second_walk ∷ [])) → ⊥
walked_by_put h = absurd (let e = (h.walks (by 1) del _ refl refl).made in cc)

-- a `shrink` is answered otherwise than its walk
told_wrong : AreWalksLawful script (with_answers (held added 0 ∷ held dropped 1 ∷ unheld (reply.WalkMemory 0) ∷ walked ∷ [])) → ⊥
told_wrong h = absurd (let e = h.told (by 2) shrink _ refl refl in cc)

-- a lookup that nobody made
lookups_off : AreLookupsLawful script (record report { lookups = kept (4 ∷ []) }) → ⊥
lookups_off h = let e : 0 ≡ 1 = h.numbers 0 3 in absurd (omega (arith, e))

-- two lookups of one number
drawn_twice : AreLookupsLawful script (with_answers (held added 0 ∷ held dropped 0 ∷ walked ∷ walked ∷ [])) → ⊥
drawn_twice h = let e : 2 ≡ 1 = h.numbers 0 0 in absurd (omega (arith, e))

-- a registration before the workers' start from another number
opened_later : AreLookupsLawful script (record report { pool = kept (Registered 0 0 1 ∷ []) }) → ⊥
opened_later h = absurd (let e = h.opened 0 0 refl in cc)

-- the drop didn't uncharge its group
not_uncharged : AreChargesLawful script (record report { uses = kept (use_step 0 0 true 0 0 ∷ use_step 0 1 false 1 1 ∷ use_step 1 0 true 0 0 ∷ []) }) → ⊥
unfolding items_from lists_moved items_within path_within
not_uncharged h = absurd (let e = h.nets (by 1) 1 (omega arith) in cc)

-- a charge of a command that is no put
charged_by_del : AreChargesLawful script (record report { uses = kept (use_step 0 0 true 0 1 ∷ []) }) → ⊥
charged_by_del h = absurd (let e = h.puts 0 _ refl refl in cc)

-- a charge that found what isn't so
found_wrong : AreChargesLawful script (record report { uses = kept (use_step 0 0 true 1 0 ∷ []) }) → ⊥
found_wrong h = absurd (let e = (h.histories 0 0 _ refl).found in cc)

-- a deferred word that no pass gave
deferred_by_none : IsDeferredLawful script (record report { deferred = kept (record { place = place; amount = 5 } ∷ []) }) → ⊥
deferred_by_none h = let e : 5 ≡ 0 = h.words place in absurd (omega (arith, e))

-- the object is there, and its bit isn't set
bit_lost : AreBitsLawful script (with_list (Add (by 0) 1 true (codes "k1") (codes "v1") ∷ []) []) → ⊥
unfolding items_from lists_moved items_within phase_of
bit_lost h = absurd (let e = h.set place (λ z. absurd (omega (arith, z))) (λ z. absurd (cc)) refl in cc)

-- an answer that the group is offline, and it never began to go
offline_by_none : AreCausesLawful script (with_answers (unheld (reply.Offline 0) ∷ held dropped 1 ∷ walked ∷ walked ∷ [])) → ⊥
offline_by_none h = absurd (let e = h.rows (by 0) put _ refl refl in cc)

-- the script has no `offline`
pub no_offline : (worker k group : ℕ) → command_at script (serial_of worker k) ≡ Some (Offline group) → ⊥
no_offline zero zero group e = absurd (cc)
no_offline zero (suc zero) group e = absurd (cc)
no_offline zero (suc (suc zero)) group e = absurd (cc)
no_offline zero (suc (suc (suc zero))) group e = absurd (cc)
no_offline zero (suc (suc (suc (suc k)))) group e = absurd (cc)
no_offline (suc worker) k group e = absurd (cc)

-- a Begin that no `offline` made
begun_by_none : AreCausesLawful script (record report { tree = kept (Begin 1 ∷ []) }) → ⊥
begun_by_none h = let x = h.begins 0 1 refl in no_offline x.0.worker x.0.command 1 x.1.command_is

-- an answer that the cache isn't live after 0 entries, though it is `on`
stale : AreCausesLawful script (with_answers (unheld (reply.NoCache 0) ∷ held dropped 1 ∷ walked ∷ walked ∷ [])) → ⊥
stale h = let e = (h.fresh.pool_on (by 0) put _ refl refl).0 in absurd (omega (arith, e))
