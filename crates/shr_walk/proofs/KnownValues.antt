-- SPDX-License-Identifier: GPL-2.0-only
-- Known values of what the tree of a script is, and of which groups are walked.
use Rattle.shr_walk.proofs.Common.{◌≡◌, true, false, [], ◌∷◌, None, refl, arith, GroupDecl, Online, Offline, NotMade, groups_of, GoesOn, IsWalkNumber}

-- /p, and /p/c below it, which is later
abbrev there : GroupDecl
there = record { path = 47 ∷ 112 ∷ []; parent = 0; limit = None; later = false }

abbrev late : GroupDecl
late = record { path = 47 ∷ 112 ∷ 47 ∷ 99 ∷ []; parent = 1; limit = None; later = true }

marked : (groups_of (there ∷ late ∷ [])).later ≡ false ∷ false ∷ true ∷ []
marked = refl

-- its parent isn't
not_the_parent : (groups_of (there ∷ late ∷ [])).later ≡ false ∷ true ∷ true ∷ [] → ⊥
not_the_parent e = absurd cc

online_is_walked : GoesOn Online
online_is_walked = tt

-- one that isn't made is walked too
not_made_is_walked : GoesOn NotMade
not_made_is_walked = tt

offline_is_not_walked : GoesOn (Offline 3) → ⊥
offline_is_not_walked h = h

last_walk_number : IsWalkNumber 9223372036854775807
last_walk_number = omega arith

first_number_of_no_walk : IsWalkNumber 9223372036854775808 → ⊥
first_number_of_no_walk n = absurd (omega (arith, n))
