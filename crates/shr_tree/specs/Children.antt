-- SPDX-License-Identifier: GPL-2.0-only
-- What a contract sees of the children of all groups.
use Rattle.std.specs.Prelude.{ℕ, List}

-- the children of each group, in rising order, and the room that is reserved
pub record ChildrenOfAll : Type 0 where
  pub lists : List (List ℕ)
  -- for how many more children of each group
  pub rooms : List ℕ
  -- for how many more groups
  pub more : ℕ
