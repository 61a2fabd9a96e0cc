-- SPDX-License-Identifier: GPL-2.0-only
-- What a valid script keeps, in plain words.
use Rattle.std.specs.Prelude.{◌≡◌, ◌⊎◌, ℕ, ◌+◌, ◌<◌, ◌≤◌, Bool, true, false, List, [], ◌∷◌, map, length, None, IfSome, sum_by}
use Rattle.std.specs.List.{AllByRecursion, count_by}
use Rattle.shr_model.specs.Groups.{Hierarchy, is_later}
use Rattle.shr_model.specs.Trees.{IsTree, IsHierarchy}
use Rattle.shr_model.specs.Paths.{is_path}
use Rattle.shr_model.specs.Words.{is_key, is_value, is_name}
use Rattle.shr_base.specs.declared.places.Target.{Target}
use Rattle.shr_base.specs.declared.scripts.GroupDecl.{GroupDecl}
use Rattle.shr_base.specs.declared.scripts.CacheDecl.{CacheDecl}
use Rattle.shr_base.specs.declared.scripts.PoolDecl.{PoolDecl}
use Rattle.shr_base.specs.declared.scripts.Sweep.{Sweep}
use Rattle.shr_base.specs.declared.scripts.Command.{Command}
use Rattle.shr_base.specs.declared.scripts.Command.TheVariants as commands
use Rattle.shr_script.specs.declared.kind.Kind.TheVariants as kinds
use Rattle.shr_script.specs.Lines.{serves_pools, serves_isolation, is_served}
use Rattle.shr_script.specs.Content.{Content, IsValid}

-- ---- the groups of a script

-- the parent of each group, the root first, which is its own
abbrev pub content_parents : Content → List ℕ
content_parents t = 0 ∷ map (λ g. g.parent) t.groups

-- which groups are later, the root first, which isn't
abbrev pub content_later : Content → List Bool
content_later t = false ∷ map (λ g. g.later) t.groups

-- the parents of the groups, and which of them are later
abbrev pub content_hierarchy : Content → Hierarchy
content_hierarchy t = record { parents = content_parents t; later = content_later t }

-- ---- the commands of a valid script

-- the root, or a group that is declared
abbrev pub IsGroup : Content → ℕ → Type 0
IsGroup t group = group < 1 + length t.groups

-- a cache that is declared
abbrev pub IsCache : Content → ℕ → Type 0
IsCache t decl = decl < length t.caches

-- a pool that is declared
abbrev pub IsPool : Content → ℕ → Type 0
IsPool t pool = pool < length t.pools

-- what a command on an object names: a group, a node and a cache that are there, and a key
pub record IsObjectWithin (t : Content) (at : Target) (key : List ℕ) : Type 0 where
  pub in_group : IsGroup t at.group
  pub on_node : at.node < t.nodes
  pub in_cache : IsCache t at.decl
  pub is_word : is_key key ≡ true

-- what a walk names: a node that is there, and a priority
pub record IsWalkWithin (t : Content) (node priority : ℕ) : Type 0 where
  pub on_node : node < t.nodes
  pub urgent : priority ≤ 12

-- what an isolation names: a group, a node and a cache that are there, and a budget; only version 2
-- has it
pub record IsIsolationWithin (t : Content) (at : Target) (budget : ℕ) : Type 0 where
  pub version : t.version ≡ 2
  pub in_group : IsGroup t at.group
  pub on_node : at.node < t.nodes
  pub in_cache : IsCache t at.decl
  pub few : budget ≤ 20000

-- what a command on a pool names: a node and a pool that are there; only version 2 has it
pub record IsPoolCommandWithin (t : Content) (node pool : ℕ) : Type 0 where
  pub version : t.version ≡ 2
  pub on_node : node < t.nodes
  pub in_pool : IsPool t pool

-- what is so if a part is served; if it isn't, there is nothing of it
abbrev pub IfServed : Bool → Type 0 → Type 0
IfServed true is = is
IfServed false is = ⊥

-- A command names groups, nodes, caches and pools that are there, and its words and its numbers are
-- such; one that makes a group names one that is later.
abbrev pub IsCommandWithin : Content → Command → Type 0
IsCommandWithin t (commands.Put at key value) = IsObjectWithin t at key × (is_value value ≡ true)
IsCommandWithin t (commands.On at key act) = IsObjectWithin t at key
IsCommandWithin t (commands.Shrink group node priority nofs) = IsGroup t group × IsWalkWithin t node priority
IsCommandWithin t (commands.Balance node priority nofs) = IsWalkWithin t node priority
IsCommandWithin t (commands.Offline group) = IsGroup t group
IsCommandWithin t (commands.MkGroup group) = IsGroup t group × (is_later (content_later t) group ≡ true)
IsCommandWithin t (commands.Register decl) = IsCache t decl
IsCommandWithin t (commands.Unregister decl) = IsCache t decl
IsCommandWithin t (commands.Isolate at budget) = IfServed serves_isolation (IsIsolationWithin t at budget)
IsCommandWithin t (commands.Release node pool units) = IfServed serves_pools (IsPoolCommandWithin t node pool × (1 ≤ units) × (units ≤ 20000))
IsCommandWithin t (commands.Grab node pool) = IfServed serves_pools (IsPoolCommandWithin t node pool)

-- ---- a valid script

-- a pool's name is a name, and its numbers are such
pub record IsPoolWithin (p : PoolDecl) : Type 0 where
  pub name : is_name p.name ≡ true
  pub seeks : p.seeks ≤ 1000
  pub batch : p.batch ≤ 20000
  pub floor : p.floor ≤ 20000

-- a sweep has a priority, and a worker that makes it
pub record IsSweepWithin (t : Content) (s : Sweep) : Type 0 where
  pub urgent : s.priority ≤ 12
  pub some_worker : 0 < length t.workers

-- the numbers, the words and the tree of a script, and what its commands name, are within what a
-- script may hold
pub record IsWithin (t : Content) : Type 0 where
  pub version : (t.version ≡ 1) ⊎ (t.version ≡ 2)
  -- 1 to 4 nodes
  pub some_node : 0 < t.nodes
  pub nodes : t.nodes ≤ 4
  -- 1 to 256 ids, and in version 1 at most 64
  pub some_id : 0 < t.ids
  pub ids : t.ids ≤ 256
  pub first_ids : t.version ≡ 1 → t.ids ≤ 64
  -- 255 groups below the root, and in version 1 at most 63
  pub groups : length t.groups ≤ 255
  pub first_groups : t.version ≡ 1 → length t.groups ≤ 63
  pub caches : length t.caches ≤ 250
  -- no more caches are on than there are ids
  pub on : count_by (λ (c : CacheDecl). c.on) t.caches ≤ t.ids
  pub workers : length t.workers ≤ 64
  -- in all
  pub commands : sum_by length t.workers ≤ 20000
  pub paths : AllByRecursion (λ (g : GroupDecl). is_path g.path ≡ true) t.groups
  pub limits : AllByRecursion (λ (g : GroupDecl). IfSome g.limit (λ n. n ≤ 1000000)) t.groups
  pub names : AllByRecursion (λ (c : CacheDecl). is_name c.name ≡ true) t.caches
  pub seeks : AllByRecursion (λ (c : CacheDecl). c.seeks ≤ 1000) t.caches
  pub batch : AllByRecursion (λ (c : CacheDecl). c.batch ≤ 20000) t.caches
  pub floor : AllByRecursion (λ (c : CacheDecl). c.floor ≤ 20000) t.caches
  pub pools : length t.pools ≤ 64
  pub each_pool : AllByRecursion IsPoolWithin t.pools
  pub sweep : IfSome t.sweep (IsSweepWithin t)
  -- if their lines aren't taken, as in version 1, there are none
  pub no_pools : is_served t.version kinds.Pool ≡ false → t.pools ≡ []
  pub no_sweep : is_served t.version kinds.Sweep ≡ false → t.sweep ≡ None
  pub tree : IsTree (content_parents t)
  pub hierarchy : IsHierarchy (content_hierarchy t)
  pub each : AllByRecursion (AllByRecursion (IsCommandWithin t)) t.workers

-- each valid script is within its bounds
abbrev pub ValidIsWithin : Type 0
ValidIsWithin = (t : Content) → IsValid t → IsWithin t
