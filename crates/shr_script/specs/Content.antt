-- SPDX-License-Identifier: GPL-2.0-only
-- What a script says, the lines that say it, and its one spelling.
use Rattle.std.specs.Prelude.{◌≡◌, ℕ, List, [], ◌∷◌, ◌++◌, map, flat_map, Option, Some, None}
use Rattle.shr_model.specs.Paths.{root_path, parent_path}
use Rattle.shr_base.specs.declared.scripts.GroupDecl.{GroupDecl}
use Rattle.shr_base.specs.declared.scripts.CacheDecl.{CacheDecl}
use Rattle.shr_base.specs.declared.scripts.Command.{Command}
use Rattle.shr_base.specs.declared.scripts.Command.TheVariants as commands
use Rattle.shr_base.specs.declared.scripts.Script.{Script}
use Rattle.shr_base.specs.declared.scripts.PoolDecl.{PoolDecl}
use Rattle.shr_base.specs.declared.scripts.Sweep.{Sweep}
use Rattle.shr_words.specs.Classes.{Word, N, L, W, place_of, policy_place, flag_place}
use Rattle.shr_script.specs.declared.kind.Kind.TheVariants as kinds
use Rattle.shr_script.specs.declared.kind.Verb.TheVariants.{Put, On, Shrink, Balance, Offline, MkGroup, Register, Unregister, Isolate, Release, Grab}
use Rattle.shr_script.specs.Lines.{Line, start}
use Rattle.shr_script.specs.Script.{IsScript, spell_lines}

-- a script, with its lists as lists
pub record Content : Type 0 where
  pub version : ℕ
  pub nodes : ℕ
  pub ids : ℕ
  pub groups : List GroupDecl
  pub caches : List CacheDecl
  pub pools : List PoolDecl
  -- the commands of each worker
  pub workers : List (List Command)
  -- what all workers do together behind their commands
  pub sweep : Option Sweep

-- what a script says, without the spare of its logs
abbrev pub content_of : Script → Content
content_of s = record {
  version = s.version;
  nodes = s.nodes;
  ids = s.ids;
  groups = s.groups.items;
  caches = s.caches.items;
  pools = s.pools.items;
  workers = map (λ w. w.commands.items) s.workers.items;
  sweep = s.sweep;
}

-- ---- the lines of a script

-- the first line of every script, which says its version
abbrev pub header_line : ℕ → Line
header_line version = (kinds.Header, N version ∷ [])

-- the line that says how many nodes and ids there are
abbrev pub size_line : ℕ → ℕ → Line
size_line nodes ids = (kinds.Size, N nodes ∷ N ids ∷ [])

-- the line that declares a group
abbrev pub group_line : GroupDecl → Line
group_line g = (kinds.Group g.later, W g.path ∷ L g.limit ∷ [])

-- the line that declares a cache
abbrev pub cache_line : CacheDecl → Line
cache_line c = (kinds.Cache, W c.name ∷ N (policy_place c.policy) ∷ N c.seeks ∷ N c.batch ∷ N c.floor ∷ N (flag_place c.fs) ∷ N (flag_place c.on) ∷ [])

-- the line that declares a pool
abbrev pub pool_line : PoolDecl → Line
pool_line p = (kinds.Pool, W p.name ∷ N p.seeks ∷ N p.batch ∷ N p.floor ∷ N (flag_place p.flat) ∷ [])

-- the line that begins a worker
abbrev pub worker_line : Line
worker_line = (kinds.Worker, [])

-- the line of a command
abbrev pub command_line : Command → Line
command_line (commands.Put at key value) = (kinds.Work Put, N at.group ∷ N at.node ∷ N at.decl ∷ W key ∷ W value ∷ [])
command_line (commands.On at key act) = (kinds.Work (On act), N at.group ∷ N at.node ∷ N at.decl ∷ W key ∷ [])
command_line (commands.Shrink group node priority nofs) = (kinds.Work Shrink, N group ∷ N node ∷ N priority ∷ N (flag_place nofs) ∷ [])
command_line (commands.Balance node priority nofs) = (kinds.Work Balance, N node ∷ N priority ∷ N (flag_place nofs) ∷ [])
command_line (commands.Offline group) = (kinds.Work Offline, N group ∷ [])
command_line (commands.MkGroup group) = (kinds.Work MkGroup, N group ∷ [])
command_line (commands.Register decl) = (kinds.Work Register, N decl ∷ [])
command_line (commands.Unregister decl) = (kinds.Work Unregister, N decl ∷ [])
command_line (commands.Isolate at budget) = (kinds.Work Isolate, N at.group ∷ N at.node ∷ N at.decl ∷ N budget ∷ [])
command_line (commands.Release node pool units) = (kinds.Work Release, N node ∷ N pool ∷ N units ∷ [])
command_line (commands.Grab node pool) = (kinds.Work Grab, N node ∷ N pool ∷ [])

-- a worker's line, and those of its commands
abbrev pub worker_command_lines : List Command → List Line
worker_command_lines cs = worker_line ∷ map command_line cs

-- the line of a sweep
abbrev pub sweep_line : Sweep → Line
sweep_line s = (kinds.Sweep, N s.priority ∷ N (flag_place s.nofs) ∷ [])

-- the same if there is one, and else no line
abbrev pub sweep_lines : Option Sweep → List Line
sweep_lines None = []
sweep_lines (Some s) = sweep_line s ∷ []

-- the last line of every script
abbrev pub end_line : Line
end_line = (kinds.End, [])

-- from the header to the last pool
abbrev pub declarations : ℕ → ℕ → ℕ → List GroupDecl → List CacheDecl → List PoolDecl → List Line
declarations version nodes ids groups caches pools = header_line version ∷ size_line nodes ids ∷ (map group_line groups ++ (map cache_line caches ++ map pool_line pools))

-- the header, the size, the groups, the caches, the pools, the workers with their commands, the
-- sweep, and the end
abbrev pub lines_of : Content → List Line
lines_of t = declarations t.version t.nodes t.ids t.groups t.caches t.pools ++ (flat_map worker_command_lines t.workers ++ (sweep_lines t.sweep ++ end_line ∷ []))

-- ---- the spelling

-- the bytes that spell a script
abbrev pub spell : Content → List ℕ
spell t = spell_lines start (lines_of t)

-- the group of a path, and the root where it isn't there
abbrev pub or_root : Option ℕ → ℕ
or_root None = 0
or_root (Some g) = g

-- Each group's parent is the group of its parent path, which stands among the groups before.
abbrev pub HaveParentsBefore : List Word → List GroupDecl → Type 0
HaveParentsBefore paths [] = Unit {0}
HaveParentsBefore paths (g ∷ gs) = (g.parent ≡ or_root (place_of (parent_path g.path) paths)) × HaveParentsBefore (paths ++ g.path ∷ []) gs

-- each line may stand where it stands, and the parents are those that the paths name
pub record IsValid (t : Content) : Type 0 where
  pub lines : IsScript (lines_of t)
  pub parents : HaveParentsBefore (root_path ∷ []) t.groups
