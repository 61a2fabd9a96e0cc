-- SPDX-License-Identifier: GPL-2.0-only
-- The lists on which the second whole report's worker acts go up only, and those of a report of a run, changed in one place,
-- don't.
use Rattle.shr_laws.proofs.Common.{◌≡◌, ℕ, zero, suc, [], ◌∷◌, codes, refl, arith, ap, sym, subst, ⊎_elim, At, Place, IsAtOrAbove, Has_from_Contains, parents_of, at, Get, On}
use Rattle.shr_base.specs.declared.replies.Reply.TheVariants as reply
use Rattle.shr_model.specs.Groups.{path_within}
use Rattle.shr_laws.specs.Climbs.{ActsOn, AreClimbing}
use Rattle.shr_laws.proofs.OfflineReport as offline
use Rattle.shr_laws.proofs.SecondReport.{kept, script, report, place, part, held, target}
use Rattle.shr_model.proofs.Lists.{some_injective}

-- the second report

-- its commands act on the one list
own_place : (worker k birth : ℕ) (p : Place) → ActsOn script report worker k birth p → p ≡ place
own_place zero zero birth p h = sym (ap (λ (a : At). a.place) (some_injective (at place 0) (at p h.entry) h.cited))
own_place zero (suc zero) birth p h = sym (ap (λ (a : At). a.place) (some_injective (at place 1) (at p h.entry) h.cited))
own_place zero (suc (suc zero)) birth p h = absurd (let e = h.cited in cc)
own_place zero (suc (suc (suc zero))) birth p h = absurd (let e = h.cited in cc)
own_place zero (suc (suc (suc (suc k)))) birth p h = absurd (let e = h.cited in cc)
own_place (suc worker) k birth p h = absurd (let e = h.cited in cc)

one_group : IsAtOrAbove (parents_of script) 1 1
unfolding path_within
one_group = (0, omega arith, refl)

pub are_climbing : AreClimbing script report
are_climbing worker k later birth p q lt first second ids nodes = subst (λ (a : Place). IsAtOrAbove (parents_of script) q.group a.group) (sym (own_place worker k birth p first))
    (subst (λ (b : Place). IsAtOrAbove (parents_of script) b.group 1) (sym (own_place worker later birth q second)) one_group)

-- a report that doesn't

-- a worker's first get found the child's list closed and acted on the parent's, and its second acted on the child's
goes_down : AreClimbing (record offline.script { workers = kept (record { commands = kept (On (target 2 0 0) (codes "x") Get ∷ On (target 2 0 0) (codes "x") Get ∷ []) } ∷ []) })
    (record offline.report { workers = kept (record part { answers = kept (held (reply.Miss (at (offline.place 0 0 1) 1)) 0 ∷ held (reply.Miss (at (offline.place 0 0 2) 0)) 1 ∷ []) } ∷ []) }) → ⊥
unfolding path_within
goes_down h = ⊎_elim (λ e. absurd (omega (arith, e))) (λ more. ⊎_elim (λ e. absurd (omega (arith, e))) (λ none. none) more)
    (Has_from_Contains (1 ∷ 0 ∷ []) 2 (h 0 0 1 2 (offline.place 0 0 1) (offline.place 0 0 2) (omega arith) (record { named = refl; entry = 1; cited = refl }) (record { named = refl; entry = 0; cited = refl }) refl refl))
