-- SPDX-License-Identifier: GPL-2.0-only
-- The script that a seed, a number of workers and a number of commands give.
use Rattle.std.specs.Prelude.{ℕ, zero, suc, ◌+◌, ◌-◌, ◌*◌, ◌/◌, ◌%◌, ◌^◌, ◌≤◌, Bool, true, false, ◌&&◌, ◌==◌, nat_lt, if◌then◌else◌, List, [], ◌∷◌, ◌++◌, map, codes, decimal, None}
use Rattle.std.specs.List.{range_with_len}
use Rattle.shr_base.specs.declared.objects.Policy.TheVariants.{Plain, Clock}
use Rattle.shr_base.specs.declared.places.Target.{Target}
use Rattle.shr_base.specs.declared.scripts.Act.TheVariants.{Get}
use Rattle.shr_base.specs.declared.scripts.GroupDecl.{GroupDecl}
use Rattle.shr_base.specs.declared.scripts.CacheDecl.{CacheDecl}
use Rattle.shr_base.specs.declared.scripts.Command.{Command}
use Rattle.shr_base.specs.declared.scripts.Command.TheVariants.{Put, On, Shrink, Balance, Offline}
use Rattle.shr_script.specs.Content.{Content}

-- the number that is drawn after this one
abbrev pub next_draw : ℕ → ℕ
next_draw x = (x * 6364136223846793005 + 1442695040888963407) % 2 ^ 64

-- the number after so many draws
abbrev pub drawn_after : ℕ → ℕ → ℕ
drawn_after x zero = x
drawn_after x (suc n) = next_draw (drawn_after x n)

-- what of a drawn number chooses a command: its upper 31 bits
abbrev pub chosen_by : ℕ → ℕ
chosen_by x = x / 2 ^ 33

-- the node that a drawn number chooses
abbrev pub node_by : ℕ → ℕ
node_by r = r % 2

-- the cache that a drawn number chooses
abbrev pub cache_by : ℕ → ℕ
cache_by r = r / 2 % 3

-- the priority that a drawn number chooses
abbrev pub priority_by : ℕ → ℕ
priority_by r = r / 8 % 13

-- the key and the value that a worker's command puts
abbrev pub key_text : ℕ → List ℕ
key_text j = codes "k" ++ decimal j

-- the same for the value
abbrev pub value_text : ℕ → List ℕ
value_text j = codes "v" ++ decimal j

-- worker w's group
abbrev pub worker_group : ℕ → ℕ
worker_group w = w + 1

-- the path of worker w's group
abbrev pub worker_path : ℕ → List ℕ
worker_path w = codes "/g" ++ decimal w

-- where worker w's command finds its object
abbrev pub target_by : ℕ → ℕ → Target
target_by w r = record { group = worker_group w; node = node_by r; decl = cache_by r }

-- Of each eight commands five put, one gets what the one before put, one shrinks the worker's
-- group, and one balances.
abbrev pub usual_command : ℕ → ℕ → ℕ → Command
usual_command w j r =
    if nat_lt (j % 8) 5 then Put (target_by w r) (key_text j) (value_text j) else
    (if j % 8 == 5 then On (target_by w r) (key_text (j - 1)) Get else
    (if j % 8 == 6 then Shrink (worker_group w) (node_by r) (priority_by r) false else
    Balance (node_by r) (priority_by r) false))

-- a worker of an odd number takes its group offline by its last command
abbrev pub is_offline : ℕ → ℕ → ℕ → Bool
is_offline w commands j = (w % 2 == 1) && (j + 1 == commands)

-- worker w's command with number j, by the number drawn for it
abbrev pub generated_command : ℕ → ℕ → ℕ → ℕ → Command
generated_command w commands j r = if is_offline w commands j then Offline (worker_group w) else usual_command w j r

-- the commands of worker w, before which x was drawn last; a number is drawn before each of them
abbrev pub commands_from : ℕ → ℕ → ℕ → List Command
commands_from x w commands = map (λ j. generated_command w commands j (chosen_by (drawn_after x (j + 1)))) (range_with_len 0 commands)

-- the group of worker w: below the root, without a limit
abbrev pub group_at : ℕ → GroupDecl
group_at w = record { path = worker_path w; parent = 0; limit = None; later = false }

-- a plain cache, a clock, and a plain one that a filesystem keeps and that is scanned by sixteens
abbrev pub three_caches : List CacheDecl
three_caches =
    record { name = codes "c0"; policy = Plain; seeks = 2; batch = 0; floor = 0; fs = false; on = true } ∷
    (record { name = codes "c1"; policy = Clock; seeks = 2; batch = 0; floor = 0; fs = false; on = true } ∷
    (record { name = codes "c2"; policy = Plain; seeks = 2; batch = 16; floor = 0; fs = true; on = true } ∷ []))

-- two nodes, four ids, a group for each worker, three caches, and as many commands for each worker
abbrev pub generated : ℕ → ℕ → ℕ → Content
generated seed workers commands = record {
  version = 1;
  nodes = 2;
  ids = 4;
  groups = map group_at (range_with_len 0 workers);
  caches = three_caches;
  pools = [];
  workers = map (λ w. commands_from (drawn_after seed (w * commands)) w commands) (range_with_len 0 workers);
  sweep = None;
}

-- the numbers that a script may be made by: 1 to 63 workers with at least one command each, and
-- 20,000 in all
pub record MayBeGenerated (workers commands : ℕ) : Type 0 where
  pub some_workers : 1 ≤ workers
  pub most_workers : workers ≤ 63
  pub some_commands : 1 ≤ commands
  pub most_commands : workers * commands ≤ 20000
