-- SPDX-License-Identifier: GPL-2.0-only
-- What is tested of freshness, at known values.
use Rattle.shr_audit_fresh.proofs.Common.{◌≡◌, ◌<◌, ◌≤◌, true, false, [], ◌∷◌, Some, None, refl, arith, Never, Once, Often, first_with, is_group, IsFloor, Reaches, After, NeverFallsFrom, may_show, is_first_before}

-- ---- numbers that never fall

same_again : NeverFallsFrom 2 (2 ∷ 5 ∷ 5 ∷ [])
same_again = (omega arith, (omega arith, (omega arith, tt)))

falls : NeverFallsFrom 2 (3 ∷ 1 ∷ []) → ⊥
falls h = let le : 3 ≤ 1 = h.1.0 in absurd (omega (arith, le))

too_low : After 4 (3 ∷ []) None
too_low rest h = let le : 4 ≤ 3 = h.0 in absurd (omega (arith, le))

-- ---- floors

above_one : IsFloor (3 ∷ []) 4
above_one m = (λ h. ((omega (arith, h)), tt), λ h. (let lt : 3 < m = h.0 in omega (arith, lt)))

not_above : IsFloor (3 ∷ []) 3 → ⊥
not_above h = let lt : 3 < 3 = ((h 3).0 (omega arith)).0 in absurd (omega (arith, lt))

reached : Reaches 4 (4 ∷ 7 ∷ [])
reached = (omega arith, (omega arith, tt))

not_reached : Reaches 4 (3 ∷ []) → ⊥
not_reached h = let le : 4 ≤ 3 = h.0 in absurd (omega (arith, le))

-- ---- first commands

first_none : first_with None 3 ≡ 3
first_none = refl

first_kept : first_with (Some 2) 3 ≡ 2
first_kept = refl

first_lower : first_with (Some 5) 3 ≡ 3
first_lower = refl

group_of : is_group 2 (Some 2) ≡ true
group_of = refl

other_group : is_group 2 (Some 3) ≡ false
other_group = refl

no_group : is_group 0 None ≡ false
no_group = refl

before : is_first_before (Some 2) 3 ≡ true
before = refl

not_before_itself : is_first_before (Some 3) 3 ≡ false
not_before_itself = refl

-- ---- who may have begun

nobody : may_show Never 0 5 ≡ false
nobody = refl

own_early : may_show (Once 0 4) 0 5 ≡ true
own_early = refl

own_itself : may_show (Once 0 5) 0 5 ≡ true
own_itself = refl

own_late : may_show (Once 0 6) 0 5 ≡ false
own_late = refl

other_late : may_show (Once 1 6) 0 5 ≡ true
other_late = refl

own_two_late : may_show (Often 0 6 false) 0 5 ≡ false
own_two_late = refl

own_and_other : may_show (Often 0 6 true) 0 5 ≡ true
own_and_other = refl
