-- SPDX-License-Identifier: GPL-2.0-only
-- The part of a group's path up to another group.
use Rattle.std.specs.Prelude.{ℕ, zero, suc, ◌||◌, ◌==◌, if◌then◌else◌, List, [], ◌∷◌}
use Rattle.shr_model.specs.Groups.{parent_of}

-- a group, its parent, and so on to `last`, or to the root where that isn't met, in at most so many
-- steps
unfoldable pub path_to_within : ℕ → List ℕ → ℕ → ℕ → List ℕ
path_to_within zero parents group last = group ∷ []
path_to_within (suc steps) parents group last =
    if (group == last) || (group == 0) then group ∷ [] else group ∷ path_to_within steps parents (parent_of parents group) last

-- a group, its parent, and so on to `last`, or to the root where that isn't met
abbrev pub path_to : List ℕ → ℕ → ℕ → List ℕ
path_to parents group last = path_to_within group parents group last
