-- SPDX-License-Identifier: GPL-2.0-only
-- What is counted, and what is tested of passes, at known values.
use Rattle.shr_audit_reasons.proofs.SpentCommon.{◌≡◌, true, false, [], refl, arith, ◌^◌, IsCapped, closed_of, is_of_kind, IsEndSpent}
use Rattle.shr_base.specs.declared.places.Place.{Place}
use Rattle.shr_base.specs.declared.replies.Spent.TheVariants as spent
use Rattle.shr_base.specs.declared.walks.Ending.TheVariants as ending
use Rattle.shr_laws.proofs.FirstReport.{report}

-- ---- counts

charge : is_of_kind true true ≡ true
charge = refl

no_uncharge : is_of_kind false true ≡ false
no_uncharge = refl

few : IsCapped 7 7
few = record { most = omega arith; same = λ lt. refl }

one_too_few : IsCapped 6 7 → ⊥
one_too_few h = let same : 6 ≡ 7 = h.same (omega arith) in absurd (omega (arith, same))

no_lists : closed_of [] ≡ []
no_lists = refl

-- ---- passes of pools

abbrev place : Place
place = record { id = 0; node = 0; group = 0 }

through : IsEndSpent report place ending.Through
through = λ y e. absurd (cc)

worn_early : IsEndSpent report place (ending.Worn (spent.List place 3 0)) → ⊥
worn_early h = let many : 3 ≡ 2 ^ 31 = (h (spent.List place 3 0) refl).1 in absurd (omega (arith, many))

worn_by_lookups : IsEndSpent report place (ending.Worn (spent.Lookups 0 3)) → ⊥
worn_by_lookups h = h (spent.Lookups 0 3) refl
