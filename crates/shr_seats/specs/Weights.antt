-- SPDX-License-Identifier: GPL-2.0-only
-- Sums over lists, and what stands in them.
use Rattle.std.specs.Prelude.{◌≡◌, ℕ, ◌+◌, List, [], ◌∷◌, ◌++◌, ◌==◌, cond, if◌then◌else◌}

-- the sum of what each element weighs
abbrev pub total : {A : Type 0} → (A → ℕ) → List A → ℕ
total f [] = 0
total f (x ∷ xs) = f x + total f xs

-- the second list goes on where the first ends
abbrev pub Begins : {A : Type 0} → List A → List A → Type 0
Begins {A} xs ys = (more : List A) × (ys ≡ xs ++ more)

-- 1 at k, and else 0
abbrev pub only : ℕ → ℕ → ℕ
only k x = cond (x == k) 1 0

-- how often k is in the list
abbrev pub times : ℕ → List ℕ → ℕ
times k xs = total (only k) xs

-- the list without k
abbrev pub without : ℕ → List ℕ → List ℕ
without k [] = []
without k (x ∷ xs) = if x == k then without k xs else (x ∷ without k xs)
