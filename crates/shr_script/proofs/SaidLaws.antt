-- SPDX-License-Identifier: GPL-2.0-only
-- What each part of a valid script's lines has said.
use Rattle.shr_script.proofs.Common.{◌≡◌, ℕ, suc, ◌+◌, Bool, true, false, List, [], ◌∷◌, ◌++◌, length, map, refl, sym, ap, subst, ◌∙◌, append_assoc, arith, flat_map, sum_by, append-nil, sum_by-cons, GroupDecl, CacheDecl, PoolDecl, Command, Word, Item, N, L, W, policy_place, flag_place, Header, Size, Group, Cache, Pool, Worker, State, start, Line, after, IsLine, Content, group_line, cache_line, pool_line, command_line, worker_command_lines, sweep_lines, end_line, lines_of, content_later, length-map}
use Rattle.shr_base.specs.declared.scripts.Command.TheVariants as commands
use Rattle.shr_script.specs.Script.{state_after_lines, AreLines}
use Rattle.shr_script.proofs.ContentLaws.{state_after-append}

-- ---- lines in two parts

pub cut_lines : (ls ms : List Line) (st : State) → AreLines st (ls ++ ms) → AreLines st ls × AreLines (state_after_lines st ls) ms
unfolding state_after_lines AreLines
cut_lines [] ms st h = (tt, h)
cut_lines (l ∷ ls) ms st h = let rest = cut_lines ls ms (after st l.0 l.1) h.1 in ((h.0, rest.0), rest.1)

-- ---- what each part says

abbrev pub path_in : GroupDecl → Word
path_in g = g.path

abbrev pub name_in : CacheDecl → Word
name_in c = c.name

abbrev pub on_in : CacheDecl → Bool
on_in c = c.on

abbrev pub late_in : GroupDecl → Bool
late_in g = g.later

pub groups_said : (gs : List GroupDecl) (st : State) → state_after_lines st (map group_line gs) ≡ record st { groups = st.groups ++ map path_in gs; later = st.later ++ map late_in gs }
unfolding state_after_lines
groups_said [] st = ap (λ (ws : List Word). record st { groups = ws; later = st.later }) (sym (append-nil st.groups)) ∙ ap (λ (bs : List Bool). record st { groups = st.groups ++ []; later = bs }) (sym (append-nil st.later))
groups_said (g ∷ gs) st =
    let later = (st.later ++ g.later ∷ []) ++ map late_in gs in
    groups_said gs (after st (Group g.later) (W g.path ∷ L g.limit ∷ []))
    ∙ ap (λ (ws : List Word). record st { groups = ws; later = later }) (append_assoc st.groups (g.path ∷ []) (map path_in gs))
    ∙ ap (λ (bs : List Bool). record st { groups = st.groups ++ map path_in (g ∷ gs); later = bs }) (append_assoc st.later (g.later ∷ []) (map late_in gs))

abbrev pub cache_items : CacheDecl → List Item
cache_items c = W c.name ∷ N (policy_place c.policy) ∷ N c.seeks ∷ N c.batch ∷ N c.floor ∷ N (flag_place c.fs) ∷ N (flag_place c.on) ∷ []

pub caches_said : (cs : List CacheDecl) (st : State) → state_after_lines st (map cache_line cs) ≡ record st { phase = (state_after_lines st (map cache_line cs)).phase; caches = st.caches ++ map name_in cs; on = (state_after_lines st (map cache_line cs)).on }
unfolding state_after_lines
caches_said [] st = ap (λ (ws : List Word). record st { caches = ws }) (sym (append-nil st.caches))
caches_said (c ∷ cs) st =
    let next = after st Cache (cache_items c) in
    let end = state_after_lines next (map cache_line cs) in
    caches_said cs next
    ∙ ap (λ (ws : List Word). record st { phase = end.phase; caches = ws; on = end.on }) (append_assoc st.caches (c.name ∷ []) (map name_in cs))

abbrev pub pool_name_in : PoolDecl → Word
pool_name_in p = p.name

abbrev pub pool_items : PoolDecl → List Item
pool_items p = W p.name ∷ N p.seeks ∷ N p.batch ∷ N p.floor ∷ N (flag_place p.flat) ∷ []

pools_said : (ps : List PoolDecl) (st : State) → state_after_lines st (map pool_line ps) ≡ record st { phase = (state_after_lines st (map pool_line ps)).phase; pools = st.pools ++ map pool_name_in ps }
unfolding state_after_lines
pools_said [] st = ap (λ (ws : List Word). record st { pools = ws }) (sym (append-nil st.pools))
pools_said (p ∷ ps) st =
    let next = after st Pool (pool_items p) in
    let end = state_after_lines next (map pool_line ps) in
    pools_said ps next
    ∙ ap (λ (ws : List Word). record st { phase = end.phase; pools = ws }) (append_assoc st.pools (p.name ∷ []) (map pool_name_in ps))

pub command_said : (c : Command) (st : State) → after st (command_line c).0 (command_line c).1 ≡ record st { commands = st.commands + 1 }
command_said (commands.Put at key value) st = refl
command_said (commands.On at key act) st = refl
command_said (commands.Shrink group node priority nofs) st = refl
command_said (commands.Balance node priority nofs) st = refl
command_said (commands.Offline group) st = refl
command_said (commands.MkGroup group) st = refl
command_said (commands.Register decl) st = refl
command_said (commands.Unregister decl) st = refl
command_said (commands.Isolate at budget) st = refl
command_said (commands.Release node pool units) st = refl
command_said (commands.Grab node pool) st = refl

pub commands_said : (cs : List Command) (st : State) → state_after_lines st (map command_line cs) ≡ record st { commands = st.commands + length cs }
unfolding state_after_lines
commands_said [] st = let z : st.commands ≡ st.commands + 0 = omega arith in ap (λ (n : ℕ). record st { commands = n }) z
commands_said (c ∷ cs) st =
    let n : (st.commands + 1) + length cs ≡ st.commands + suc (length cs) = omega arith in
    commands_said cs (after st (command_line c).0 (command_line c).1)
    ∙ ap (λ (s : State). record s { commands = s.commands + length cs }) (command_said c st)
    ∙ ap (λ (m : ℕ). record st { commands = m }) n

pub record Worked (st end : State) (ws : List (List Command)) : Type 0 where
  pub version : end.version ≡ st.version
  pub workers : end.workers ≡ st.workers + length ws
  pub commands : end.commands ≡ st.commands + sum_by length ws

pub workers_said : (ws : List (List Command)) (st : State) → Worked st (state_after_lines st (flat_map worker_command_lines ws)) ws
unfolding state_after_lines
workers_said [] st = record { version = refl; workers = omega arith; commands = omega arith }
workers_said (w ∷ ws) st =
    let s = after st Worker [] in
    let m = map command_line w in
    let f = flat_map worker_command_lines ws in
    let behind = workers_said ws (state_after_lines s m) in
    let said = commands_said w s in
    let cut = state_after-append m f s in
    let workers = ap (λ (x : State). x.workers) cut ∙ behind.workers in
    let commands = ap (λ (x : State). x.commands) cut ∙ behind.commands in
    let workers_here = ap (λ (x : State). x.workers) said in
    let commands_here = ap (λ (x : State). x.commands) said in
    let sum = sum_by-cons length w ws in
    record { version = ap (λ (x : State). x.version) cut ∙ behind.version ∙ ap (λ (x : State). x.version) said; workers = omega (arith, workers, workers_here); commands = omega (arith, commands, commands_here, sum) }

-- ---- the declarations

-- what the workers' lines see of the declarations
pub record Declared (t : Content) (st : State) : Type 0 where
  pub version : st.version ≡ t.version
  pub nodes : st.nodes ≡ t.nodes
  pub groups : length st.groups ≡ 1 + length t.groups
  pub later : st.later ≡ content_later t
  pub caches : length st.caches ≡ length t.caches
  pub pools : length st.pools ≡ length t.pools

pub record IsBegun (t : Content) (st : State) : Type 0 where
  pub declared : Declared t st
  pub workers : st.workers ≡ 0
  pub commands : st.commands ≡ 0

-- behind the size
abbrev pub sized : Content → State
sized t = after (after start Header (N t.version ∷ [])) Size (N t.nodes ∷ N t.ids ∷ [])

abbrev pub grouped : Content → State
grouped t = record (sized t) { groups = (sized t).groups ++ map path_in t.groups; later = (sized t).later ++ map late_in t.groups }

-- behind the caches
abbrev pub cached : Content → State
cached t = state_after_lines (grouped t) (map cache_line t.caches)

-- behind all declarations
abbrev pub declared_state : Content → State
declared_state t = state_after_lines (sized t) (map group_line t.groups ++ (map cache_line t.caches ++ map pool_line t.pools))

pub declared_in_turn : (t : Content) → declared_state t ≡ state_after_lines (cached t) (map pool_line t.pools)
declared_in_turn t =
    let g = map group_line t.groups in
    let c = map cache_line t.caches in
    let p = map pool_line t.pools in
    state_after-append g (c ++ p) (sized t) ∙ ap (λ (s : State). state_after_lines s (c ++ p)) (groups_said t.groups (sized t)) ∙ state_after-append c p (grouped t)

pub begun : (t : Content) → IsBegun t (declared_state t)
begun t =
    let last = state_after_lines (cached t) (map pool_line t.pools) in
    let same : declared_state t ≡ record (grouped t) { phase = last.phase; caches = [] ++ map name_in t.caches; on = (cached t).on; pools = [] ++ map pool_name_in t.pools } =
    declared_in_turn t ∙ pools_said t.pools (cached t) ∙ ap (λ (s : State). record s { phase = last.phase; pools = s.pools ++ map pool_name_in t.pools }) (caches_said t.caches (grouped t)) in
    record {
      declared = record {
        version = ap (λ (s : State). s.version) same;
        nodes = ap (λ (s : State). s.nodes) same;
        groups = ap (λ (s : State). length s.groups) same ∙ ap suc (length-map t.groups path_in) ∙ omega arith;
        later = ap (λ (s : State). s.later) same;
        caches = ap (λ (s : State). length s.caches) same ∙ length-map t.caches name_in;
        pools = ap (λ (s : State). length s.pools) same ∙ length-map t.pools pool_name_in;
      };
      workers = ap (λ (s : State). s.workers) same;
      commands = ap (λ (s : State). s.commands) same;
    }

-- the lines of a valid script, in their parts
pub record Parts (t : Content) : Type 0 where
  pub header : IsLine start (Header, N t.version ∷ [])
  pub size : IsLine (after start Header (N t.version ∷ [])) (Size, N t.nodes ∷ N t.ids ∷ [])
  pub groups : AreLines (sized t) (map group_line t.groups)
  pub caches : AreLines (grouped t) (map cache_line t.caches)
  pub pools : AreLines (cached t) (map pool_line t.pools)
  pub workers : AreLines (declared_state t) (flat_map worker_command_lines t.workers)
  pub sweep : AreLines (state_after_lines (declared_state t) (flat_map worker_command_lines t.workers)) (sweep_lines t.sweep)

pub parts_of : (t : Content) → AreLines start (lines_of t) → Parts t
unfolding AreLines
parts_of t h =
    let g = map group_line t.groups in
    let c = map cache_line t.caches in
    let p = map pool_line t.pools in
    let f = flat_map worker_command_lines t.workers in
    let z = sweep_lines t.sweep in
    let whole = cut_lines (g ++ (c ++ p)) (f ++ (z ++ end_line ∷ [])) (sized t) h.1.1 in
    let declared = cut_lines g (c ++ p) (sized t) whole.0 in
    let behind_groups = cut_lines c p (grouped t) (subst (λ (s : State). AreLines s (c ++ p)) (groups_said t.groups (sized t)) declared.1) in
    let worked = cut_lines f (z ++ end_line ∷ []) (declared_state t) whole.1 in
    let swept = cut_lines z (end_line ∷ []) (state_after_lines (declared_state t) f) worked.1 in
    record {
      header = h.0;
      size = h.1.0;
      groups = declared.0;
      caches = behind_groups.0;
      pools = behind_groups.1;
      workers = worked.0;
      sweep = swept.0;
    }
