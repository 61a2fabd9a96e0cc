-- SPDX-License-Identifier: GPL-2.0-only
-- What the laws say of groups that are made during a run: by a report of one, and by changes that break them.
use Rattle.shr_laws.proofs.Common.{◌≡◌, ◌<◌, ℕ, zero, suc, true, false, List, [], ◌∷◌, codes, Some, None, Contains, refl, IsSomeAnd, arith, inl, inr, ap, subst, Closed, Begin, Done, Made, Serial, Answered, Shrink, Balance, Offline, MkGroup, IsAtOrAbove, Has, Has_from_Contains, Report, serial_of, parents_of, journals_of, reply_at, AreChargesLawful, AreCausesLawful, AreJournalsLawful, IsFreePut, IsReply, HasCause, script_hierarchy, is_made_by, IsMadeOnce, made_shown, shows_made, group_met}
use Rattle.shr_base.specs.declared.replies.Reply.TheVariants as reply
use Rattle.shr_model.specs.Groups.{path_within}
use Rattle.shr_model.specs.TreeJournal.{MayBeMade, IsTreeJournal}
use Rattle.shr_laws.proofs.SecondReport as second
use Rattle.shr_laws.proofs.NotLawful.{with_answers}
use Rattle.shr_laws.proofs.MadeReport.{script, report, place, put}

-- ---- what the report says

-- each answer has its cause
unmade : HasCause script report (serial_of 0 0) put (reply.NotMade 2)
unmade = record { named = refl; late = refl }

made : HasCause script report (serial_of 0 1) (MkGroup 2) (reply.Made 0)
made = refl

made_before : HasCause script report (serial_of 0 2) (MkGroup 2) (reply.AlreadyMade 0)
made_before = refl

in_the_way : HasCause script report (serial_of 0 4) (Offline 1) (reply.HasChildren 2 1)
in_the_way = record { known = omega arith; child_is = refl }

-- a command that makes a group speaks of its parent where that is offline or not made
its_parent : group_met script (MkGroup 2) ≡ Some 1
its_parent = refl

its_own : group_met script put ≡ Some 2
its_own = refl

parent_offline : HasCause script (record report { tree = second.kept (Begin 1 ∷ []) }) (serial_of 0 1) (MkGroup 2) (reply.Offline 0)
parent_offline = refl

-- which commands may be answered so
may_be_unmade : IsReply [] (journals_of report) (serial_of 0 0) put None (reply.NotMade 2)
may_be_unmade = tt

offline_unmade : IsReply [] (journals_of report) (serial_of 0 0) (Offline 2) None (reply.NotMade 2)
offline_unmade = tt

may_be_made : IsReply [] (journals_of report) (serial_of 0 1) (MkGroup 2) None (reply.Made 0)
may_be_made = tt

-- its journal of the tree is one, and its entry is cited once
its_tree : IsTreeJournal (script_hierarchy script) (Made 2 ∷ [])
its_tree zero (Made g) at = let same : 2 ≡ g = cc in subst_made g same
  where
    subst_made : (g : ℕ) → 2 ≡ g → MayBeMade (script_hierarchy script) [] g
    subst_made g e = subst (MayBeMade (script_hierarchy script) []) e (record { there = omega arith; late = refl; once = refl; parent = refl; online = refl })
its_tree zero (Begin g) at = absurd (cc)
its_tree zero (Done g) at = absurd (cc)
its_tree (suc n) e at = absurd (cc)

cited_once : IsMadeOnce report 0
cited_once = record { by = serial_of 0 1; cited = refl; once = only }
  where
    only : (x : Serial) → IsSomeAnd (reply_at report x) (λ y. is_made_by 0 y ≡ true) → x ≡ serial_of 0 1
    only x h = at x.worker x.command h
      where
        at : (worker k : ℕ) → IsSomeAnd (reply_at report (serial_of worker k)) (λ y. is_made_by 0 y ≡ true) → serial_of worker k ≡ serial_of 0 1
        at zero zero h = absurd (cc)
        at zero (suc zero) h = refl
        at zero (suc (suc zero)) h = absurd (cc)
        at zero (suc (suc (suc zero))) h = absurd (cc)
        at zero (suc (suc (suc (suc zero)))) h = absurd (cc)
        at zero (suc (suc (suc (suc (suc k))))) h = absurd h
        at (suc worker) k h = absurd h

-- what an answer shows to be made
shown_by_making : shows_made script report (serial_of 0 1) ≡ Some 2
shown_by_making = refl

shown_by_put : shows_made script report (serial_of 0 3) ≡ Some 2
shown_by_put = refl

not_shown : shows_made script report (serial_of 0 0) ≡ None
not_shown = refl

not_by_memory : made_shown put reply.Memory ≡ None
not_by_memory = refl

not_by_walk : made_shown (Shrink 2 0 0 false) (reply.Walked 0) ≡ None
not_by_walk = refl

not_by_parent : made_shown (MkGroup 2) (reply.Offline 0) ≡ None
not_by_parent = refl

-- a list of a child that was never made is closed below a group that began
closed_below : (g : ℕ) × IsAtOrAbove (parents_of script) g 2 × Contains (Begin 1 ∷ []) (Begin g)
unfolding path_within
closed_below = (1, (1, omega arith, refl), (0, omega arith, refl))

-- ---- what breaks it

-- a walk, and a balance, are never refused so, and nothing else makes a group
walk_unmade : IsReply [] (journals_of report) (serial_of 0 0) (Shrink 2 0 0 false) None (reply.NotMade 2) → ⊥
walk_unmade h = h

balance_unmade : IsReply [] (journals_of report) (serial_of 0 0) (Balance 0 0 false) None (reply.NotMade 2) → ⊥
balance_unmade h = h

made_by_put : IsReply [] (journals_of report) (serial_of 0 0) put None (reply.Made 0) → ⊥
made_by_put h = h

-- a group that is there from the start is said not to be made; or another one than the command's
not_later : HasCause second.script second.report (serial_of 0 0) second.put (reply.NotMade 1) → ⊥
not_later h = absurd (let e : false ≡ true = h.late in cc)

other_unmade : HasCause script report (serial_of 0 0) put (reply.NotMade 1) → ⊥
other_unmade h = let e : 1 ≡ 2 = h.named in absurd (omega (arith, e))

child_for_parent : HasCause script report (serial_of 0 1) (MkGroup 2) (reply.NotMade 2) → ⊥
child_for_parent h = let e : 2 ≡ 1 = h.named in absurd (omega (arith, e))

-- it was made by an entry that isn't its Made
made_by_begin : HasCause script (record report { tree = second.kept (Begin 2 ∷ []) }) (serial_of 0 1) (MkGroup 2) (reply.Made 0) → ⊥
made_by_begin h = absurd (cc)

-- a child that isn't made is in the way
children_unmade : HasCause script (record report { tree = second.kept [] }) (serial_of 0 4) (Offline 1) (reply.HasChildren 2 0) → ⊥
children_unmade h = absurd (let e = h.child_is in cc)

-- a group that is there from the start is made
made_anyhow : AreChargesLawful second.script (record second.report { tree = second.kept (Made 1 ∷ []) }) → ⊥
made_anyhow h = absurd (let e : false ≡ true = (h.tree 0 (Made 1) refl).late in cc)

-- a Made that no answer cites, and one that two cite
abbrev with_made : List Answered → Report
with_made answers = record (with_answers answers) { tree = second.kept (Made 1 ∷ []) }

group_made_by_none : AreCausesLawful second.script (with_made []) → ⊥
group_made_by_none h = let x = h.mades 0 1 refl in none x.by.worker x.by.command x.cited
  where
    none : (worker k : ℕ) → IsSomeAnd (reply_at (with_made []) (serial_of worker k)) (λ y. is_made_by 0 y ≡ true) → ⊥
    none zero k h = h
    none (suc worker) k h = h

made_twice_cited : AreCausesLawful second.script (with_made (second.unheld (reply.Made 0) ∷ second.unheld (reply.Made 0) ∷ [])) → ⊥
made_twice_cited h =
    let x = h.mades 0 1 refl in
    let first : 0 ≡ x.by.command = ap (λ (s : Serial). s.command) (x.once (serial_of 0 0) refl) in
    let next : 1 ≡ x.by.command = ap (λ (s : Serial). s.command) (x.once (serial_of 0 1) refl) in
    absurd (omega (arith, first, next))

-- a worker knew less of the tree than the Made that it was told of
made_later : AreCausesLawful second.script (with_answers (second.unheld (reply.Made 0) ∷ second.unheld (reply.HasChildren 2 0) ∷ [])) → ⊥
made_later h = let e : 0 < 0 = (h.fresh.tree_shown 0 0 1 (omega arith)).0.0 in absurd (omega (arith, e))

-- a worker was shown that the group is made, and later told that it isn't
abbrev told : List Answered → Report
told answers = record report { workers = second.kept (record { answers = second.kept answers; walks = second.kept []; carries = second.kept []; plain = second.kept []; isolations = second.kept [] } ∷ []) }

unmade_after_made : AreCausesLawful script (told (second.unheld (reply.NotMade 2) ∷ second.unheld (reply.Made 0) ∷ second.unheld (reply.AlreadyMade 0) ∷ second.unheld (reply.NotMade 2) ∷ [])) → ⊥
unmade_after_made h = h.fresh.made 0 2 3 2 (omega arith) refl refl

unmade_after_put : AreCausesLawful script (told (second.unheld (reply.Offline 0) ∷ second.unheld reply.Memory ∷ second.unheld reply.Memory ∷ second.unheld (reply.NotMade 2) ∷ [])) → ⊥
unmade_after_put h = h.fresh.made 0 0 3 2 (omega arith) refl refl

-- a list is closed, and only a group below its own began
closed_above : AreJournalsLawful script (record report {
  places = second.kept (record { place = record place { group = 1 }; entries = second.kept (Closed ∷ []); items = second.kept [] } ∷ []);
  tree = second.kept (Begin 2 ∷ []);
}) → ⊥
unfolding path_within
closed_above h =
    let x = h.begun (record place { group = 1 }) refl in
    differ x.0 (Has_from_Contains (1 ∷ 0 ∷ []) x.0 x.1) (Has_from_Contains (Begin 2 ∷ []) (Begin x.0) x.2)
  where
    same_group : (g : ℕ) → Begin 2 ≡ Begin g → 2 ≡ g
    same_group g e = cc

    not_two : (g : ℕ) → 2 ≡ g → Has (1 ∷ 0 ∷ []) g → ⊥
    not_two g e (inl f) = absurd (omega (arith, e, f))
    not_two g e (inr (inl f)) = absurd (omega (arith, e, f))
    not_two g e (inr (inr f)) = absurd f

    differ : (g : ℕ) → Has (1 ∷ 0 ∷ []) g → Has (Begin 2 ∷ []) (Begin g) → ⊥
    differ g path (inl e) = not_two g (same_group g e) path
    differ g path (inr e) = absurd e

-- a put in a later group isn't one that must be added
later_isnt_free : IsFreePut script report 0 3 2 0 (codes "x") → ⊥
later_isnt_free h = absurd (let e : true ≡ false = h.there in cc)
