-- SPDX-License-Identifier: GPL-2.0-only
-- The tables of pools that were made for a script.
use Rattle.shr_worker.proofs.Common.{ℕ, ◌<◌, ◌≤◌, Bool, true, false, List, length, ap, subst, ◌∙◌, arith, Isolate, Release, Script, Setting, settings_of, pool_sizes, IsCommandWithin, Sizes, Grab, ArePoolsOf, setting_by, IsPoolOf, IfServed, IsIsolationWithin, IsPoolCommandWithin, Content}
use Rattle.std.proofs.lemmas.List.{length-map}
use Rattle.shr_base.specs.declared.places.Target.{Target}
use Rattle.shr_plain.specs.declared.table.Pools.{Pools}
use Rattle.shr_script.specs.Lines.{serves_pools, serves_isolation}

module _ (s : Script) (p : Pools) (are : ArePoolsOf s p) where
  -- what is so of the tables' settings and sizes is so of the script's
  pub of_script : (P : List Setting → Sizes → Type 0) → P p.settings.items p.sizes → P (settings_of s) (pool_sizes s)
  of_script P is = subst (λ (z : Sizes). P (settings_of s) z) are.sizes (subst (λ (l : List Setting). P l p.sizes) are.settings is)

  pub node_there : (node : ℕ) → node < s.nodes → node < p.sizes.nodes
  node_there node there = let same = ap (λ (z : Sizes). z.nodes) are.sizes in omega (arith, same, there)

  -- a pool and a node of the script are those of the tables
  pub pool_there : (pool node : ℕ) → pool < length s.pools.items → node < s.nodes → IsPoolOf p.settings.items p.sizes pool node
  pool_there pool node one there = record {
    pool = let long = ap (λ (l : List Setting). length l) are.settings ∙ length-map s.pools.items setting_by in omega (arith, long, one);
    node = node_there node there;
  }

-- what is so if a part is served is so
pub served : (b : Bool) (P : Type 0) → IfServed b P → P
served true P is = is
served false P is = absurd is

-- what a `release` of a valid script names, and how many units
pub release_there : (t : Content) (node pool units : ℕ) → IsCommandWithin t (Release node pool units) → IsPoolCommandWithin t node pool × (1 ≤ units) × (units ≤ 20000)
release_there t node pool units within = served serves_pools (IsPoolCommandWithin t node pool × (1 ≤ units) × (units ≤ 20000)) within

-- what a `grab` of one names
pub grab_there : (t : Content) (node pool : ℕ) → IsCommandWithin t (Grab node pool) → IsPoolCommandWithin t node pool
grab_there t node pool within = served serves_pools (IsPoolCommandWithin t node pool) within

-- what an isolation of one names
pub isolate_there : (t : Content) (at : Target) (budget : ℕ) → IsCommandWithin t (Isolate at budget) → IsIsolationWithin t at budget
isolate_there t at budget within = served serves_isolation (IsIsolationWithin t at budget) within
