-- SPDX-License-Identifier: GPL-2.0-only
-- Changes that break the sentences that no other change here breaks: sizes and names, totals,
-- rounds, walks that were cut, rows of the table of replies, and a list that two caches share.
use Rattle.shr_laws.proofs.Common.{◌≡◌, ◌≤◌, ℕ, true, List, [], ◌∷◌, codes, length, replicate, Some, None, refl, arith, ap, inl, inr, Entry, Add, Drop, Drained, Registered, Unregistered, Idle, WalkRecord, Has, Has_from_Contains, Report, serial_of, journals_of, IsReply, HasCause, AreRepliesLawful, AreJournalsLawful, IsBagLawful, AreWalksLawful, IsFoundRight, AreLookupsLawful, AreChargesLawful, IsDeferredLawful, MovedIn, IsBegun, AreRoundsOfPut, Del, Get}
use Rattle.shr_base.specs.declared.journals.DropKind.TheVariants as kind
use Rattle.std.proofs.lemmas.List.Sorted.{length_permutation}
use Rattle.shr_base.specs.declared.walks.Outcome.TheVariants as outcome
use Rattle.shr_base.specs.declared.replies.Reply.TheVariants as reply
use Rattle.shr_base.specs.declared.scripts.Command.TheVariants as command
use Rattle.shr_base.specs.declared.walks.WalkAnswer.TheVariants as walk
use Rattle.shr_model.specs.Bag.{AreDistinct}
use Rattle.shr_model.specs.Groups.{path_within, path_of}
use Rattle.shr_model.specs.Items.{items_from, freed_from, AreOutcomes}
use Rattle.shr_model.specs.Families.{lists_moved, items_within}
use Rattle.shr_model.specs.Pool.{phase_of, decl_from, decl_at, registrations, end_of, number_from, is_live_below}
use Rattle.shr_laws.proofs.SecondReport as second
use Rattle.shr_laws.proofs.NotLawful.{with_list, with_walks}
use Rattle.shr_laws.proofs.OfflineReport as moves
use Rattle.shr_laws.proofs.OverReport as over
use Rattle.shr_laws.proofs.UnregisterReport as leaves
use Rattle.shr_laws.proofs.ThirdReport as third

-- other sizes, paths and names
two_ids : AreRepliesLawful second.script (record second.report { ids = 2 }) → ⊥
two_ids h = let e : 2 ≡ 1 = h.ids in absurd (omega (arith, e))

no_path : AreRepliesLawful second.script (record second.report { groups = second.kept (codes "/" ∷ []) }) → ⊥
no_path h = let e = ap (λ (xs : List (List ℕ)). length xs) h.paths in absurd (omega (arith, e))

no_name : AreRepliesLawful second.script (record second.report { caches = second.kept [] }) → ⊥
no_name h = let e = ap (λ (xs : List (List ℕ)). length xs) h.names in absurd (omega (arith, e))

-- an object was dropped that never was there
dropped_none : AreJournalsLawful second.script (with_list (Drop (second.by 1) 1 (codes "k1") kind.Dropped ∷ []) []) → ⊥
unfolding AreOutcomes lists_moved
dropped_none h = absurd (let e = (h.legal second.place).outcomes.0 in cc)

-- an object of a group that isn't there
born_nowhere : AreJournalsLawful second.script (with_list (Add (second.by 0) 7 true (codes "k1") [] ∷ []) []) → ⊥
born_nowhere h = let e = ((h.legal second.place).stands 0 _ refl).allowed.there in absurd (omega (arith, e))

-- a place that is printed twice
printed_twice : AreJournalsLawful second.script (record second.report {
  places = second.kept (record { place = second.place; entries = second.kept second.entries; items = second.kept [] } ∷ record { place = second.place; entries = second.kept []; items = second.kept [] } ∷ []);
}) → ⊥
printed_twice h = let e : 0 ≡ 1 = h.once 0 1 _ _ refl refl refl in absurd (omega (arith, e))

-- the total line has one more of each
added_off : IsBagLawful second.script (record second.report { added = 2 }) → ⊥
added_off h = let e : 2 ≡ 1 = h.added in absurd (omega (arith, e))

listed_off : IsBagLawful second.script (record second.report { listed = 1 }) → ⊥
unfolding items_from lists_moved items_within
listed_off h = let e : 1 ≡ 0 = h.listed in absurd (omega (arith, e))

-- the id was registered from a number that its lookups haven't reached
registered_ahead : AreLookupsLawful second.script (record second.report { pool = second.kept (Registered 0 0 0 ∷ Unregistered 0 0 3 ∷ Idle 0 ∷ Registered 0 0 5 ∷ []) }) → ⊥
unfolding phase_of number_from
registered_ahead h = let e : 5 ≤ 3 = h.last 0 refl in absurd (omega (arith, e))

-- a put charged a group 15 times
charged_often : AreChargesLawful over.script (record over.report { uses = second.kept (replicate 15 (second.use_step 1 0 true 0 4)) }) → ⊥
charged_often h = let e : 15 ≤ 14 = h.fourteen (serial_of 0 4) 1 in absurd (omega (arith, e))

-- a group has three objects where two are its limit
above_limit : AreChargesLawful over.script (record over.report {
  places = second.kept (record {
    place = second.place;
    entries = second.kept (Add (second.by 0) 1 true (codes "k1") [] ∷ Add (second.by 2) 1 true (codes "k2") [] ∷ Add (second.by 4) 1 true (codes "k3") [] ∷ []);
    items = second.kept [];
  } ∷ []);
}) → ⊥
unfolding items_from lists_moved items_within path_within
above_limit h = let e : 3 ≤ 2 = h.limits 1 in absurd (omega (arith, e))

-- the rounds of a put: a fourteenth, one over a group that isn't above, fewer than refusals, and an
-- Over after none
fourteen_rounds : AreRoundsOfPut over.script over.report (serial_of 0 4) 1 (reply.Over 1 28 2) (replicate 14 1) → ⊥
fourteen_rounds h = let e = h.few in absurd (omega (arith, e))

round_elsewhere : AreRoundsOfPut over.script over.report (serial_of 0 4) 1 (reply.Over 1 28 2) (5 ∷ []) → ⊥
unfolding path_within
round_elsewhere h = no (Has_from_Contains (path_of (0 ∷ 0 ∷ []) 1) 5 h.above.0) where
  no : Has {X = ℕ} (1 ∷ 0 ∷ []) 5 → ⊥
  no (inl e) = omega (arith, e)
  no (inr (inl e)) = omega (arith, e)
  no (inr (inr e)) = e

fewer_rounds : AreRoundsOfPut over.script over.report (serial_of 0 4) 1 (reply.Over 1 28 2) (replicate 12 1) → ⊥
fewer_rounds h = let e : 13 ≡ 14 = h.refusals 1 in absurd (omega (arith, e))

over_at_once : AreRoundsOfPut over.script over.report (serial_of 0 4) 1 (reply.Over 1 28 2) [] → ⊥
over_at_once h = let e : 0 ≡ 13 = h.all 1 28 2 refl in absurd (omega (arith, e))

-- a walk that was cut: it loaded a later unit before it tried the ids of the first, or began with
-- another unit
abbrev two_maps : WalkRecord
two_maps = record second.first_walk { maps = second.kept (record { unit = 0; bits = 1 } ∷ record { unit = 1; bits = 0 } ∷ []); attempts = second.kept []; answer = walk.Memory 0 }

unit_too_early : IsBegun (record second.script { ids = 128 }) two_maps → ⊥
unit_too_early h = let e : 1 ≤ 0 = h.tried (record { unit = 0; bits = 1 } ∷ []) (record { unit = 1; bits = 0 }) refl in absurd (omega (arith, e))

other_unit : IsBegun (record second.script { ids = 128 }) (record two_maps { maps = second.kept (record { unit = 1; bits = 0 } ∷ []) }) → ⊥
other_unit h = absurd (let e = h.units in cc)

root_skips : IsBegun second.script (record two_maps { group = 0; maps = second.kept []; attempts = second.kept (record { id = 5; outcome = outcome.Worn 0 } ∷ []) }) → ⊥
root_skips h = absurd (let e = h.root refl in cc)

-- rows of the table
not_registered : HasCause leaves.script leaves.report (serial_of 0 6) (command.Register 0) (reply.AlreadyRegistered 3) → ⊥
unfolding is_live_below phase_of decl_from
not_registered h = absurd (let e = h.live in cc)

registered_by_idle : HasCause leaves.script leaves.report (serial_of 0 6) (command.Register 0) (reply.Registered 0 2) → ⊥
registered_by_idle h = absurd (let e = h.1 in cc)

not_root : HasCause moves.script moves.report (serial_of 0 3) (command.Offline 2) reply.Root → ⊥
not_root h = absurd (omega (arith, h))

done_by_begin : HasCause moves.script moves.report (serial_of 0 3) (command.Offline 2) (reply.AlreadyDone 0) → ⊥
done_by_begin h = absurd (cc)

-- the walk of another command's kind
walked_by_get : IsReply (0 ∷ 0 ∷ []) (journals_of second.report) (second.by 0) (command.On (second.target 1 0 0) [] Get) None (reply.Walked 0) → ⊥
walked_by_get h = h

-- a del of the second cache drops the first one's object
list_shared : IsReply (0 ∷ 0 ∷ []) (journals_of second.report) (second.by 1) (command.On (second.target 1 0 1) (codes "k1") Del) (Some 1) (reply.Dropped (record { place = second.place; entry = 1 })) → ⊥
list_shared h = let e : 0 ≡ 1 = h.id_is in absurd (omega (arith, e))

-- an object is dropped, and no cache was found
found_by_none : IsReply (0 ∷ 0 ∷ []) (journals_of second.report) (second.by 1) (command.On (second.target 1 0 0) (codes "k1") Del) None (reply.Dropped (record { place = second.place; entry = 1 })) → ⊥
found_by_none h = h

-- a list that was moved in and not closed, so that its object is listed twice, or freed and listed
abbrev moved_open : List Entry → List Entry → Report
moved_open above below = record moves.report { places = second.kept (record { place = moves.place 0 0 1; entries = second.kept above; items = second.kept [] } ∷ record { place = moves.place 0 0 2; entries = second.kept below; items = second.kept [] } ∷ []) }

listed_twice : IsBagLawful moves.script (moved_open (MovedIn 2 1 ∷ []) (Add (second.by 0) 2 true (codes "x") [] ∷ [])) → ⊥
unfolding items_from freed_from lists_moved items_within
listed_twice h = let e : 2 ≡ 1 = length_permutation _ _ h.bag.parts in absurd (omega (arith, e))

freed_and_listed : IsBagLawful moves.script (moved_open (MovedIn 2 1 ∷ Drained (second.by 1) 1 ∷ []) (Add (second.by 0) 2 true (codes "x") [] ∷ [])) → ⊥
unfolding items_from freed_from lists_moved items_within
freed_and_listed h = let e : 2 ≡ 1 = length_permutation _ _ h.bag.parts in absurd (omega (arith, e))

-- a serial that two objects have, each of which is freed
freed_twice : IsBagLawful second.script (with_list (Add (second.by 0) 1 true (codes "k1") [] ∷ Drop (second.by 1) 1 (codes "k1") kind.Dropped ∷ Add (second.by 0) 1 true (codes "k2") [] ∷ Drop (second.by 2) 1 (codes "k2") kind.Dropped ∷ []) []) → ⊥
unfolding AreDistinct
freed_twice h = h.bag.distinct.0.0 refl

-- an attempt at an id whose bit the map lacks
tried_one_more : AreWalksLawful second.script (with_walks (second.walk 2 0 (second.cleared ∷ []) ∷ second.second_walk ∷ [])) → ⊥
tried_one_more h = absurd (let e = ((h.each 0 0 _ refl).mapped 0 refl (λ z. absurd (omega (arith, z)))).1 in cc)

-- a skip of more objects than the floor
skipped_above : AreWalksLawful second.script (with_walks (second.walk 2 1 (record { id = 0; outcome = outcome.Skip 2 1 1 } ∷ []) ∷ second.second_walk ∷ [])) → ⊥
unfolding decl_at registrations end_of
skipped_above h = let e : 1 ≤ 0 = ((h.each 0 0 _ refl).kinds 0 _ refl refl).1 in absurd (omega (arith, e))

-- a cache was found after its unregistration
found_dying : IsFoundRight leaves.report 0 (record { id = 0; number = 0; entry = 2 }) → ⊥
unfolding phase_of
found_dying h = absurd (let e = h.live in cc)

-- its lookup's number lies in no registration
found_late : IsFoundRight leaves.report 0 (record { id = 0; number = 3; entry = 1 }) → ⊥
unfolding end_of
found_late h = absurd (let e = h.to in cc)

-- a carry was taken from the child's word and given to no word
carried_nowhere : IsDeferredLawful third.script (record third.report { deferred = second.kept [] }) → ⊥
carried_nowhere h = let e : 0 ≡ 2 = h.words (third.place_of 1) in absurd (omega (arith, e))
