-- SPDX-License-Identifier: GPL-2.0-only
-- The lines of pools, isolations and a sweep: their spelling, where they stand, and their faults.
use Rattle.shr_script.proofs.Common.{◌≡◌, ℕ, zero, suc, true, false, List, [], ◌∷◌, codes, None, Some, Ok, Err, refl, root_path, Word, N, Number, Chosen, PoolKinds, item_of, Group, Cache, Pool, Worker, Work, Sweep, End, Put, Grab, Groups, Caches, Pools, Workers, Swept, State, start, misplaced, pool_class, Content, spell}
use Rattle.std.specs.Fmt.{digits}
use Rattle.shr_model.specs.Pieces.{joined}
use Rattle.shr_base.specs.declared.objects.Policy.TheVariants.{Plain as PlainPolicy}
use Rattle.shr_base.specs.declared.scripts.Command.TheVariants as commands
use Rattle.shr_base.specs.declared.scripts.Code.TheVariants.{UnknownWord, UnknownCache, BadNumber, Exists, TooMany, NoWorker}
use Rattle.shr_words.specs.WordReading.{number_spelled, is_numeral, chosen_of, listed_of}
use Rattle.shr_words.specs.Classes.{passes, place_of}
use Rattle.shr_script.specs.LineReading.{kind_at, kind_of, verb_of}
use Rattle.shr_script.specs.Lines.{pool_rule}
use Rattle.shr_script.specs.Script.{spell_lines}

-- ---- the spelling

abbrev whole : Content
whole = record {
  version = 2;
  nodes = 2;
  ids = 1;
  groups = record { path = codes "/a"; parent = 0; limit = None; later = false } ∷ [];
  caches = record { name = codes "dentry"; policy = PlainPolicy; seeks = 2; batch = 0; floor = 0; fs = false; on = true } ∷ [];
  pools = record { name = codes "buf"; seeks = 2; batch = 0; floor = 1; flat = true } ∷ record { name = codes "dentry"; seeks = 0; batch = 16; floor = 0; flat = false } ∷ [];
  workers = (commands.Release 0 0 10 ∷ commands.Grab 1 1 ∷ commands.Isolate (record { group = 1; node = 0; decl = 0 }) 3 ∷ []) ∷ [] ∷ [];
  sweep = Some (record { priority = 12; nofs = true });
}

-- pools stand behind the caches, and a sweep behind the last worker; a pool may have a cache's name
whole_spelled : spell whole
    ≡ joined 10 (codes "shrinkers 2")
    (codes "size 2 1" ∷ codes "group /a max" ∷ codes "cache dentry plain 2 0 0 any on" ∷ codes "pool buf 2 0 1 flat" ∷ codes "pool dentry 0 16 0 nodes" ∷ codes "worker" ∷ codes "release 0 buf 10" ∷ codes "grab 1 dentry" ∷ codes "isolate /a 0 dentry 3" ∷ codes "worker" ∷ codes "sweep 12 nofs" ∷ codes "end" ∷ [] ∷ [])
unfolding spell_lines joined digits
whole_spelled = refl

-- ---- where they stand

pool_behind_groups : misplaced Groups Pool ≡ None
pool_behind_groups = refl

pool_behind_caches : misplaced Caches Pool ≡ None
pool_behind_caches = refl

pool_behind_pools : misplaced Pools Pool ≡ None
pool_behind_pools = refl

no_cache_behind_pools : misplaced Pools Cache ≡ Some UnknownWord
no_cache_behind_pools = refl

no_group_behind_pools : misplaced Pools (Group false) ≡ Some UnknownWord
no_group_behind_pools = refl

no_later_behind_pools : misplaced Pools (Group true) ≡ Some UnknownWord
no_later_behind_pools = refl

no_pool_among_workers : misplaced Workers Pool ≡ Some UnknownWord
no_pool_among_workers = refl

no_grab_before_workers : misplaced Pools (Work Grab) ≡ Some NoWorker
no_grab_before_workers = refl

no_sweep_before_workers : misplaced Groups Sweep ≡ Some NoWorker
no_sweep_before_workers = refl

no_sweep_behind_pools : misplaced Pools Sweep ≡ Some NoWorker
no_sweep_behind_pools = refl

sweep_among_workers : misplaced Workers Sweep ≡ None
sweep_among_workers = refl

end_behind_sweep : misplaced Swept End ≡ None
end_behind_sweep = refl

no_sweep_behind_sweep : misplaced Swept Sweep ≡ Some UnknownWord
no_sweep_behind_sweep = refl

no_worker_behind_sweep : misplaced Swept Worker ≡ Some UnknownWord
no_worker_behind_sweep = refl

no_put_behind_sweep : misplaced Swept (Work Put) ≡ Some UnknownWord
no_put_behind_sweep = refl

-- ---- version 1 doesn't know them, before the first worker and behind it

no_pool_in_version_1 : kind_at 1 Caches (codes "pool") ≡ Err UnknownWord
unfolding kind_at kind_of
no_pool_in_version_1 = refl

no_sweep_in_version_1 : kind_at 1 Groups (codes "sweep") ≡ Err UnknownWord
unfolding kind_at kind_of
no_sweep_in_version_1 = refl

no_release_in_version_1 : kind_at 1 Groups (codes "release") ≡ Err UnknownWord
unfolding kind_at kind_of verb_of
no_release_in_version_1 = refl

no_grab_in_version_1 : kind_at 1 Workers (codes "grab") ≡ Err UnknownWord
unfolding kind_at kind_of verb_of
no_grab_in_version_1 = refl

no_isolate_in_version_1 : kind_at 1 Workers (codes "isolate") ≡ Err UnknownWord
unfolding kind_at kind_of verb_of
no_isolate_in_version_1 = refl

-- ---- a pool's own rule

-- so many times the same name, which no script has
abbrev repeated : ℕ → Word → List Word
repeated zero w = []
repeated (suc n) w = w ∷ repeated n w

abbrev behind : ℕ → State
behind n = record start { phase = Pools; version = 2; nodes = 1; ids = 1; groups = root_path ∷ []; caches = codes "buf" ∷ []; pools = repeated n (codes "p") }

-- a cache of the name is nothing against it
pool_64 : pool_rule (behind 63) (codes "buf") ≡ Ok tt
unfolding pool_rule place_of
pool_64 = refl

no_pool_65 : pool_rule (behind 64) (codes "buf") ≡ Err TooMany
unfolding pool_rule place_of
no_pool_65 = refl

-- that it is there comes first
exists_first : pool_rule (behind 64) (codes "p") ≡ Err Exists
unfolding pool_rule place_of
exists_first = refl

-- ---- their words

flat_word : item_of (Chosen PoolKinds) (codes "flat") ≡ Ok (N 1)
unfolding chosen_of place_of
flat_word = refl

nodes_word : item_of (Chosen PoolKinds) (codes "nodes") ≡ Ok (N 0)
unfolding chosen_of place_of
nodes_word = refl

no_other_word : item_of (Chosen PoolKinds) (codes "any") ≡ Err UnknownWord
unfolding chosen_of place_of
no_other_word = refl

declared_pool : item_of (pool_class (behind 1)) (codes "p") ≡ Ok (N 0)
unfolding listed_of passes place_of
declared_pool = refl

-- a cache is no pool
undeclared_pool : item_of (pool_class (behind 1)) (codes "buf") ≡ Err UnknownCache
unfolding listed_of passes place_of
undeclared_pool = refl

-- 1 to 20,000 units
most_units : item_of (Number 1 20001) (codes "20000") ≡ Ok (N 20000)
unfolding number_spelled is_numeral
most_units = refl

no_units : item_of (Number 1 20001) (codes "0") ≡ Err BadNumber
unfolding number_spelled is_numeral
no_units = refl

too_many_units : item_of (Number 1 20001) (codes "20001") ≡ Err BadNumber
unfolding number_spelled is_numeral
too_many_units = refl
