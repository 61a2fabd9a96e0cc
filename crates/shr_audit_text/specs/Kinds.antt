-- SPDX-License-Identifier: GPL-2.0-only
-- The kinds of answers, by their first words, in the order in which they are asked.
use Rattle.std.specs.Prelude.{◌≡◌, ℕ, false, bytes_eq, codes, List, [], ◌∷◌, ◌++◌}

-- a word is none of these
abbrev pub IsNoneOf : List ℕ → List (List ℕ) → Type 0
IsNoneOf word [] = Unit {0}
IsNoneOf word (other ∷ others) = (bytes_eq word other ≡ false) × IsNoneOf word others

-- those of answers that cite an entry of a list
abbrev pub citing : List (List ℕ)
citing = codes "hit" ∷ codes "added" ∷ codes "exists" ∷ codes "miss" ∷ codes "dropped" ∷ codes "pinned" ∷ []

-- these, and those of answers of groups, charges and walks
abbrev pub walking : List (List ℕ)
walking = citing ++ codes "offline" ∷ codes "over" ∷ codes "nocache" ∷ codes "worn" ∷ codes "walked" ∷ codes "alreadydone" ∷ codes "root" ∷ codes "haschildren" ∷ []

-- these, and those of answers of registrations, and of an answer that is one of two
abbrev pub registering : List (List ℕ)
registering = walking ++ codes "registered" ∷ codes "alreadyregistered" ∷ codes "noid" ∷ codes "freed" ∷ codes "done" ∷ codes "memory" ∷ []

-- these, and those of answers of groups that are made, and of an isolation
abbrev pub making : List (List ℕ)
making = registering ++ codes "made" ∷ codes "alreadymade" ∷ codes "notmade" ∷ codes "isolated" ∷ []
