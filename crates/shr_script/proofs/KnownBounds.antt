-- SPDX-License-Identifier: GPL-2.0-only
-- What the commands of a small script may name.
use Rattle.shr_script.proofs.Common.{◌≡◌, List, [], ◌∷◌, None, refl, arith, true, false, codes, Command, Target, Get, SetPin, Content, IsCommandWithin, IsIsolationWithin, IsPoolCommandWithin, IsPoolWithin, IsSweepWithin}
use Rattle.shr_base.specs.declared.objects.Policy.TheVariants.{Plain as PlainPolicy}
use Rattle.shr_base.specs.declared.scripts.Command.TheVariants as commands

abbrev with : List Command → Content
with cs = record {
  version = 1;
  nodes = 1;
  ids = 1;
  groups = record { path = codes "/a"; parent = 0; limit = None; later = false } ∷ [];
  caches = record { name = codes "dentry"; policy = PlainPolicy; seeks = 2; batch = 0; floor = 0; fs = false; on = true } ∷ [];
  pools = [];
  workers = cs ∷ [];
  sweep = None;
}

-- the same with a group more, which is later
abbrev with_later : List Command → Content
with_later cs = record (with cs) { groups = record { path = codes "/a"; parent = 0; limit = None; later = false } ∷ record { path = codes "/a/b"; parent = 1; limit = None; later = true } ∷ [] }

-- the group, the node and the cache that are there
abbrev on_dentry : Target
on_dentry = record { group = 1; node = 0; decl = 0 }

makes_a_later_group : IsCommandWithin (with_later []) (commands.MkGroup 2)
makes_a_later_group = (omega arith, refl)

makes_no_other : IsCommandWithin (with_later []) (commands.MkGroup 1) → ⊥
makes_no_other h = let e : false ≡ true = h.1 in cc

put_within : IsCommandWithin (with []) (commands.Put on_dentry (codes "k1") (codes ""))
put_within = (record { in_group = omega arith; on_node = omega arith; in_cache = omega arith; is_word = refl }, refl)

pinned_within : IsCommandWithin (with []) (commands.On on_dentry (codes "k1") (SetPin true))
pinned_within = record { in_group = omega arith; on_node = omega arith; in_cache = omega arith; is_word = refl }

no_object_on_a_second_node : IsCommandWithin (with []) (commands.On (record { group = 1; node = 1; decl = 0 }) (codes "k1") Get) → ⊥
no_object_on_a_second_node h = let lt = h.on_node in omega (arith, lt)

no_second_group : IsCommandWithin (with []) (commands.Offline 2) → ⊥
no_second_group h = omega (arith, h)

no_second_cache : IsCommandWithin (with []) (commands.Register 1) → ⊥
no_second_cache h = omega (arith, h)

no_second_node : IsCommandWithin (with []) (commands.Balance 1 12 true) → ⊥
no_second_node h = let lt = h.on_node in omega (arith, lt)

no_priority_13 : IsCommandWithin (with []) (commands.Balance 0 13 true) → ⊥
no_priority_13 h = let le = h.urgent in omega (arith, le)

-- one of version 2 with a pool
abbrev with_pool : List Command → Content
with_pool cs = record (with cs) { version = 2; pools = record { name = codes "buf"; seeks = 2; batch = 0; floor = 0; flat = true } ∷ [] }

pool_within : IsPoolWithin (record { name = codes "buf"; seeks = 1000; batch = 20000; floor = 20000; flat = true })
pool_within = record { name = refl; seeks = omega arith; batch = omega arith; floor = omega arith }

no_floor_20001 : IsPoolWithin (record { name = codes "buf"; seeks = 0; batch = 0; floor = 20001; flat = true }) → ⊥
no_floor_20001 h = let le = h.floor in omega (arith, le)

on_a_pool : IsPoolCommandWithin (with_pool []) 0 0
on_a_pool = record { version = refl; on_node = omega arith; in_pool = omega arith }

no_second_pool : IsPoolCommandWithin (with_pool []) 0 1 → ⊥
no_second_pool h = let lt = h.in_pool in omega (arith, lt)

isolated_within : IsIsolationWithin (with_pool []) on_dentry 20000
isolated_within = record { version = refl; in_group = omega arith; on_node = omega arith; in_cache = omega arith; few = omega arith }

no_isolation_in_version_1 : IsIsolationWithin (with []) on_dentry 0 → ⊥
no_isolation_in_version_1 h = let e = h.version in omega (arith, e)

no_budget_20001 : IsIsolationWithin (with_pool []) on_dentry 20001 → ⊥
no_budget_20001 h = let le = h.few in omega (arith, le)

swept_within : IsSweepWithin (with_pool []) (record { priority = 12; nofs = false })
swept_within = record { urgent = omega arith; some_worker = omega arith }

no_sweep_by_none : IsSweepWithin (record (with_pool []) { workers = [] }) (record { priority = 0; nofs = false }) → ⊥
no_sweep_by_none h = let lt = h.some_worker in omega (arith, lt)

no_sweep_of_priority_13 : IsSweepWithin (with_pool []) (record { priority = 13; nofs = false }) → ⊥
no_sweep_of_priority_13 h = let le = h.urgent in omega (arith, le)
