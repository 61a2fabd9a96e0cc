-- SPDX-License-Identifier: GPL-2.0-only
-- The version and the sizes of a script whose tables were made, and its groups, a tree in which the parent of one that isn't later
-- isn't later.
use Rattle.shr_assemble.proofs.Common.{sym, subst, content_of, within_of_valid, hierarchy_of, shape_of, IsShared, Shared, IsHierarchy, ◌≡◌, ◌⊎◌, ◌≤◌, arith, length-map, GroupDecl, IsSized}
use Rattle.shr_laws.specs.Parts as report
use Rattle.shr_assemble.proofs.QuietSteps.{hierarchy_is}

pub sized_of : (x : Shared) → IsShared x → IsSized x.script
sized_of x shared = let within = within_of_valid (content_of x.script) shared.script in let groups = within.groups in let ids = within.ids in let same = length-map x.script.groups.items (λ (g : GroupDecl). g.parent) in record {
  nodes = within.nodes;
  groups = omega (arith, groups, same);
  ids = omega (arith, ids);
}

pub version_of : (x : Shared) → IsShared x → (x.script.version ≡ 1) ⊎ (x.script.version ≡ 2)
version_of x shared = (within_of_valid (content_of x.script) shared.script).version

-- a script of version 1 has at most 64 ids
pub few_of_first : (x : Shared) → IsShared x → x.script.version ≡ 1 → x.script.ids ≤ 64
few_of_first x shared one = (within_of_valid (content_of x.script) shared.script).first_ids one

module _ (x : Shared) (shared : IsShared x) where
  pub is_hierarchy : IsHierarchy (report.script_hierarchy x.script)
  is_hierarchy = (within_of_valid (content_of x.script) shared.script).hierarchy

  -- and so are those of the core
  pub core_hierarchy : IsHierarchy (hierarchy_of (shape_of x.core))
  core_hierarchy = subst IsHierarchy (sym (hierarchy_is x shared)) is_hierarchy
