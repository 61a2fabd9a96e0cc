-- SPDX-License-Identifier: GPL-2.0-only
-- The lines of a valid script make that script.
use Rattle.shr_script.proofs.Common.{◌≡◌, ℕ, Bool, true, false, List, [], ◌∷◌, ◌++◌, map, Option, Some, None, refl, sym, ap, ◌∙◌, append_assoc, flat_map, ◌==◌, append-nil, parent_path, GroupDecl, CacheDecl, PoolDecl, Command, Item, N, L, W, policy_place, policy_at, flag_place, place_of, Header, Size, Group, Cache, Pool, Worker, Phase, Start, Sizes, Groups, Caches, Pools, Workers, Swept, Done, State, start, Line, after, Content, group_line, cache_line, pool_line, command_line, worker_command_lines, sweep_lines, end_line, lines_of, or_root, HaveParentsBefore, IsValid, spell, Drafted, empty, content_by, cache_decl, pool_decl, with_command, added, flag_again, policy_again}
use Rattle.shr_base.specs.declared.objects.Policy.{Policy}
use Rattle.shr_base.specs.declared.scripts.Sweep.{Sweep}
use Rattle.shr_base.specs.declared.scripts.Command.TheVariants as commands
use Rattle.shr_script.specs.Script.{state_after_lines}
use Rattle.shr_script.specs.Drafted.{completed, made_by}
use Rattle.shr_script.proofs.MadeLaws.{content_made}
use Rattle.shr_script.proofs.ScriptLaws.{once_lines}

-- ---- one part after another

pub state_after-append : (ls ms : List Line) (st : State) → state_after_lines st (ls ++ ms) ≡ state_after_lines (state_after_lines st ls) ms
unfolding state_after_lines
state_after-append [] ms st = refl
state_after-append (l ∷ ls) ms st = state_after-append ls ms (after st l.0 l.1)

made_by-append : (ls ms : List Line) (st : State) (d : Drafted) → made_by st d (ls ++ ms) ≡ made_by (state_after_lines st ls) (made_by st d ls) ms
unfolding state_after_lines made_by
made_by-append [] ms st d = refl
made_by-append (l ∷ ls) ms st d = made_by-append ls ms (after st l.0 l.1) (added st d l.0 l.1)

-- ---- groups

with_groups : Drafted → List GroupDecl → Drafted
with_groups d gs = record d { groups = d.groups ++ gs }

same_group : (g : GroupDecl) (p : ℕ) → g.parent ≡ p → record g { parent = p } ≡ g
same_group g p e = ap (λ (q : ℕ). record g { parent = q }) (sym e)

groups_made : (gs : List GroupDecl) (st : State) (d : Drafted) → HaveParentsBefore st.groups gs → made_by st d (map group_line gs) ≡ record d { groups = d.groups ++ gs }
unfolding made_by
groups_made [] st d h = ap (λ (xs : List GroupDecl). record d { groups = xs }) (sym (append-nil d.groups))
groups_made (g ∷ gs) st d h =
    let p = or_root (place_of (parent_path g.path) st.groups) in
    groups_made gs (after st (Group g.later) (W g.path ∷ L g.limit ∷ [])) (record d { groups = d.groups ++ record g { parent = p } ∷ [] }) h.1
    ∙ ap (λ (x : GroupDecl). record d { groups = (d.groups ++ x ∷ []) ++ gs }) (same_group g p h.0)
    ∙ ap (λ (xs : List GroupDecl). record d { groups = xs }) (append_assoc d.groups (g ∷ []) gs)

groups_phase : (gs : List GroupDecl) (st : State) → (state_after_lines st (map group_line gs)).phase ≡ st.phase
unfolding state_after_lines
groups_phase [] st = refl
groups_phase (g ∷ gs) st = groups_phase gs (after st (Group g.later) (W g.path ∷ L g.limit ∷ []))

-- ---- caches

same_cache : (c : CacheDecl) (p : Policy) (f o : Bool) → p ≡ c.policy → f ≡ c.fs → o ≡ c.on → record c { policy = p; fs = f; on = o } ≡ c
same_cache c p f o e1 e2 e3 = rw (e1, e2, e3) refl

abbrev cache_items : CacheDecl → List Item
cache_items c = W c.name ∷ N (policy_place c.policy) ∷ N c.seeks ∷ N c.batch ∷ N c.floor ∷ N (flag_place c.fs) ∷ N (flag_place c.on) ∷ []

caches_made : (cs : List CacheDecl) (st : State) (d : Drafted) → made_by st d (map cache_line cs) ≡ record d { caches = d.caches ++ cs }
unfolding made_by
caches_made [] st d = ap (λ (xs : List CacheDecl). record d { caches = xs }) (sym (append-nil d.caches))
caches_made (c ∷ cs) st d =
    caches_made cs (after st Cache (cache_items c)) (record d { caches = d.caches ++ cache_decl (cache_items c) ∷ [] })
    ∙ ap (λ (x : CacheDecl). record d { caches = (d.caches ++ x ∷ []) ++ cs })
    (same_cache c (policy_at (policy_place c.policy)) (flag_place c.fs == 1) (flag_place c.on == 1) (policy_again c.policy) (flag_again c.fs) (flag_again c.on))
    ∙ ap (λ (xs : List CacheDecl). record d { caches = xs }) (append_assoc d.caches (c ∷ []) cs)

abbrev pub is_workers : Phase → Bool
is_workers Workers = true
is_workers p = false

pub caches_phase : (cs : List CacheDecl) (st : State) → is_workers st.phase ≡ false → is_workers (state_after_lines st (map cache_line cs)).phase ≡ false
unfolding state_after_lines
caches_phase [] st h = h
caches_phase (c ∷ cs) st h = caches_phase cs (after st Cache (cache_items c)) refl

-- ---- pools

same_pool : (p : PoolDecl) (f : Bool) → f ≡ p.flat → record p { flat = f } ≡ p
same_pool p f e = rw e refl

abbrev pool_items : PoolDecl → List Item
pool_items p = W p.name ∷ N p.seeks ∷ N p.batch ∷ N p.floor ∷ N (flag_place p.flat) ∷ []

pools_made : (ps : List PoolDecl) (st : State) (d : Drafted) → made_by st d (map pool_line ps) ≡ record d { pools = d.pools ++ ps }
unfolding made_by
pools_made [] st d = ap (λ (xs : List PoolDecl). record d { pools = xs }) (sym (append-nil d.pools))
pools_made (p ∷ ps) st d =
    pools_made ps (after st Pool (pool_items p)) (record d { pools = d.pools ++ pool_decl (pool_items p) ∷ [] })
    ∙ ap (λ (x : PoolDecl). record d { pools = (d.pools ++ x ∷ []) ++ ps }) (same_pool p (flag_place p.flat == 1) (flag_again p.flat))
    ∙ ap (λ (xs : List PoolDecl). record d { pools = xs }) (append_assoc d.pools (p ∷ []) ps)

pub pools_phase : (ps : List PoolDecl) (st : State) → is_workers st.phase ≡ false → is_workers (state_after_lines st (map pool_line ps)).phase ≡ false
unfolding state_after_lines
pools_phase [] st h = h
pools_phase (p ∷ ps) st h = pools_phase ps (after st Pool (pool_items p)) refl

-- ---- workers

command_added : (c : Command) (st : State) (d : Drafted) → added st d (command_line c).0 (command_line c).1 ≡ with_command d c
command_added (commands.Put at key value) st d = refl
command_added (commands.On at key act) st d = refl
command_added (commands.Shrink group node priority nofs) st d = ap (λ (b : Bool). with_command d (commands.Shrink group node priority b)) (flag_again nofs)
command_added (commands.Balance node priority nofs) st d = ap (λ (b : Bool). with_command d (commands.Balance node priority b)) (flag_again nofs)
command_added (commands.Offline group) st d = refl
command_added (commands.MkGroup group) st d = refl
command_added (commands.Register decl) st d = refl
command_added (commands.Unregister decl) st d = refl
command_added (commands.Isolate at budget) st d = refl
command_added (commands.Release node pool units) st d = refl
command_added (commands.Grab node pool) st d = refl

command_after : (c : Command) (st : State) → after st (command_line c).0 (command_line c).1 ≡ record st { commands = (after st (command_line c).0 (command_line c).1).commands }
command_after (commands.Put at key value) st = refl
command_after (commands.On at key act) st = refl
command_after (commands.Shrink group node priority nofs) st = refl
command_after (commands.Balance node priority nofs) st = refl
command_after (commands.Offline group) st = refl
command_after (commands.MkGroup group) st = refl
command_after (commands.Register decl) st = refl
command_after (commands.Unregister decl) st = refl
command_after (commands.Isolate at budget) st = refl
command_after (commands.Release node pool units) st = refl
command_after (commands.Grab node pool) st = refl

commands_made : (cs : List Command) (st : State) (d : Drafted) → made_by st d (map command_line cs) ≡ record d { commands = d.commands ++ cs }
unfolding made_by
commands_made [] st d = ap (λ (xs : List Command). record d { commands = xs }) (sym (append-nil d.commands))
commands_made (c ∷ cs) st d =
    commands_made cs (after st (command_line c).0 (command_line c).1) (added st d (command_line c).0 (command_line c).1)
    ∙ ap (λ (e : Drafted). record e { commands = e.commands ++ cs }) (command_added c st d)
    ∙ ap (λ (xs : List Command). record d { commands = xs }) (append_assoc d.commands (c ∷ []) cs)

commands_phase : (cs : List Command) (st : State) → (state_after_lines st (map command_line cs)).phase ≡ st.phase
unfolding state_after_lines
commands_phase [] st = refl
commands_phase (c ∷ cs) st =
    commands_phase cs (after st (command_line c).0 (command_line c).1) ∙ ap (λ (s : State). s.phase) (command_after c st)

none_left : (p : Phase) (d : Drafted) → (completed p d).commands ≡ []
none_left Start d = refl
none_left Sizes d = refl
none_left Groups d = refl
none_left Caches d = refl
none_left Pools d = refl
none_left Workers d = refl
none_left Swept d = refl
none_left Done d = refl

not_begun : (p : Phase) (d : Drafted) → is_workers p ≡ false → completed p d ≡ record d { commands = [] }
not_begun Start d e = refl
not_begun Sizes d e = refl
not_begun Groups d e = refl
not_begun Caches d e = refl
not_begun Pools d e = refl
not_begun Workers d e = absurd cc
not_begun Swept d e = refl
not_begun Done d e = refl

-- the workers are complete
abbrev all_of : Drafted → List (List Command) → Drafted
all_of d ws = record d { complete = d.complete ++ ws; commands = [] }

one_worker : (e : Drafted) (w : List Command) (ws : List (List Command)) → e.commands ≡ []
    → all_of (completed Workers (record e { commands = e.commands ++ w })) ws ≡ all_of e (w ∷ ws)
one_worker e w ws none =
    rw none (ap (λ (xs : List (List Command)). record e { complete = xs; commands = [] }) (append_assoc e.complete (w ∷ []) ws))

workers_made : (ws : List (List Command)) (st : State) (d : Drafted)
    → completed (state_after_lines st (flat_map worker_command_lines ws)).phase (made_by st d (flat_map worker_command_lines ws)) ≡ all_of (completed st.phase d) ws
unfolding state_after_lines made_by
workers_made [] st d =
    let e = completed st.phase d in
    ap (λ (xs : List (List Command)). record e { complete = xs }) (sym (append-nil e.complete)) ∙ ap (λ (cs : List Command). record e { complete = e.complete ++ []; commands = cs }) (none_left st.phase d)
workers_made (w ∷ ws) st d =
    let s = after st Worker [] in
    let e = completed st.phase d in
    let m = map command_line w in
    let f = flat_map worker_command_lines ws in
    let s' = state_after_lines s m in
    let e' = made_by s e m in
    ap (λ (t : State). completed t.phase (made_by s e (m ++ f))) (state_after-append m f s)
    ∙ ap (completed (state_after_lines s' f).phase) (made_by-append m f s e)
    ∙ workers_made ws s' e'
    ∙ ap (λ (p : Phase). all_of (completed p e') ws) (commands_phase w s)
    ∙ ap (λ (x : Drafted). all_of (completed Workers x) ws) (commands_made w s e)
    ∙ one_worker e w ws (none_left st.phase d)

-- ---- the sizes stay

abbrev sizes : State → ℕ × ℕ × ℕ
sizes st = (st.version, st.nodes, st.ids)

groups_sizes : (gs : List GroupDecl) (st : State) → sizes (state_after_lines st (map group_line gs)) ≡ sizes st
unfolding state_after_lines
groups_sizes [] st = refl
groups_sizes (g ∷ gs) st = groups_sizes gs (after st (Group g.later) (W g.path ∷ L g.limit ∷ []))

caches_sizes : (cs : List CacheDecl) (st : State) → sizes (state_after_lines st (map cache_line cs)) ≡ sizes st
unfolding state_after_lines
caches_sizes [] st = refl
caches_sizes (c ∷ cs) st = caches_sizes cs (after st Cache (cache_items c))

pools_sizes : (ps : List PoolDecl) (st : State) → sizes (state_after_lines st (map pool_line ps)) ≡ sizes st
unfolding state_after_lines
pools_sizes [] st = refl
pools_sizes (p ∷ ps) st = pools_sizes ps (after st Pool (pool_items p))

commands_sizes : (cs : List Command) (st : State) → sizes (state_after_lines st (map command_line cs)) ≡ sizes st
unfolding state_after_lines
commands_sizes [] st = refl
commands_sizes (c ∷ cs) st = commands_sizes cs (after st (command_line c).0 (command_line c).1) ∙ ap sizes (command_after c st)

workers_sizes : (ws : List (List Command)) (st : State) → sizes (state_after_lines st (flat_map worker_command_lines ws)) ≡ sizes st
unfolding state_after_lines
workers_sizes [] st = refl
workers_sizes (w ∷ ws) st =
    let s = after st Worker [] in
    ap sizes (state_after-append (map command_line w) (flat_map worker_command_lines ws) s) ∙ workers_sizes ws (state_after_lines s (map command_line w)) ∙ commands_sizes w s

-- ---- the sweep and the end

-- behind the workers, the last lines complete the last worker and say the sweep
abbrev last_lines : Option Sweep → List Line
last_lines z = sweep_lines z ++ end_line ∷ []

same_sweep : (z : Sweep) (b : Bool) → b ≡ z.nofs → record z { nofs = b } ≡ z
same_sweep z b e = rw e refl

ended : (z : Option Sweep) (st : State) (d : Drafted) → d.sweep ≡ None → made_by st d (last_lines z) ≡ record (completed st.phase d) { sweep = z }
unfolding made_by
ended None st d none = no_sweep st.phase d none
  where
    no_sweep : (p : Phase) (e : Drafted) → e.sweep ≡ None → completed p e ≡ record (completed p e) { sweep = None }
    no_sweep Start e h = ap (λ (o : Option Sweep). record e { commands = []; sweep = o }) h
    no_sweep Sizes e h = ap (λ (o : Option Sweep). record e { commands = []; sweep = o }) h
    no_sweep Groups e h = ap (λ (o : Option Sweep). record e { commands = []; sweep = o }) h
    no_sweep Caches e h = ap (λ (o : Option Sweep). record e { commands = []; sweep = o }) h
    no_sweep Pools e h = ap (λ (o : Option Sweep). record e { commands = []; sweep = o }) h
    no_sweep Workers e h = ap (λ (o : Option Sweep). record e { complete = e.complete ++ e.commands ∷ []; commands = []; sweep = o }) h
    no_sweep Swept e h = ap (λ (o : Option Sweep). record e { commands = []; sweep = o }) h
    no_sweep Done e h = ap (λ (o : Option Sweep). record e { commands = []; sweep = o }) h
ended (Some z) st d none =
    ap (λ (cs : List Command). record (completed st.phase d) { commands = cs; sweep = Some (record z { nofs = flag_place z.nofs == 1 }) }) (sym (none_left st.phase d))
    ∙ ap (λ (y : Sweep). record (completed st.phase d) { sweep = Some y }) (same_sweep z (flag_place z.nofs == 1) (flag_again z.nofs))

last_sizes : (z : Option Sweep) (st : State) → sizes (state_after_lines st (last_lines z)) ≡ sizes st
unfolding state_after_lines
last_sizes None st = refl
last_sizes (Some z) st = refl

-- no worker says a sweep
no_sweep_yet : (ws : List (List Command)) (st : State) (d : Drafted) → (made_by st d (flat_map worker_command_lines ws)).sweep ≡ d.sweep
unfolding state_after_lines made_by
no_sweep_yet [] st d = refl
no_sweep_yet (w ∷ ws) st d =
    let s = after st Worker [] in
    let e = completed st.phase d in
    let m = map command_line w in
    ap (λ (x : Drafted). x.sweep) (made_by-append m (flat_map worker_command_lines ws) s e)
    ∙ no_sweep_yet ws (state_after_lines s m) (made_by s e m)
    ∙ ap (λ (x : Drafted). x.sweep) (commands_made w s e)
    ∙ kept_sweep st.phase d
  where
    kept_sweep : (p : Phase) (e : Drafted) → (completed p e).sweep ≡ e.sweep
    kept_sweep Start e = refl
    kept_sweep Sizes e = refl
    kept_sweep Groups e = refl
    kept_sweep Caches e = refl
    kept_sweep Pools e = refl
    kept_sweep Workers e = refl
    kept_sweep Swept e = refl
    kept_sweep Done e = refl

-- ---- the whole script

record Whole (t : Content) (st : State) (d : Drafted) : Type 0 where
  sizes_stay : sizes st ≡ (t.version, t.nodes, t.ids)
  drafted : d ≡ record { groups = t.groups; caches = t.caches; pools = t.pools; complete = t.workers; commands = []; sweep = t.sweep }

-- the lines from the first group on
abbrev lines_behind : Content → List Line
lines_behind t = (map group_line t.groups ++ (map cache_line t.caches ++ map pool_line t.pools)) ++ (flat_map worker_command_lines t.workers ++ last_lines t.sweep)

-- what the lines of these parts say and make, one part after the other
parts_said : (g c p f l : List Line) (st : State) → state_after_lines st ((g ++ (c ++ p)) ++ (f ++ l)) ≡ state_after_lines (state_after_lines (state_after_lines (state_after_lines (state_after_lines st g) c) p) f) l
parts_said g c p f l st =
    state_after-append (g ++ (c ++ p)) (f ++ l) st
    ∙ ap (λ (s : State). state_after_lines s (f ++ l)) (state_after-append g (c ++ p) st ∙ state_after-append c p (state_after_lines st g))
    ∙ state_after-append f l (state_after_lines (state_after_lines (state_after_lines st g) c) p)

parts_made : (g c p f l : List Line) (st : State) (d : Drafted)
    → made_by st d ((g ++ (c ++ p)) ++ (f ++ l))
    ≡ made_by (state_after_lines (state_after_lines (state_after_lines (state_after_lines st g) c) p) f)
    (made_by (state_after_lines (state_after_lines (state_after_lines st g) c) p) (made_by (state_after_lines (state_after_lines st g) c) (made_by (state_after_lines st g) (made_by st d g) c) p) f) l
parts_made g c p f l st d =
    let s1 = state_after_lines st g in
    let s3 = state_after_lines (state_after_lines s1 c) p in
    let d1 = made_by st d g in
    made_by-append (g ++ (c ++ p)) (f ++ l) st d
    ∙ ap (λ (s : State). made_by s (made_by st d (g ++ (c ++ p))) (f ++ l)) (state_after-append g (c ++ p) st ∙ state_after-append c p s1)
    ∙ ap (λ (e : Drafted). made_by s3 e (f ++ l)) (made_by-append g (c ++ p) st d ∙ made_by-append c p s1 d1)
    ∙ made_by-append f l s3 (made_by (state_after_lines s1 c) (made_by s1 d1 c) p)

whole_made : (t : Content) (st : State) → st.phase ≡ Groups → sizes st ≡ (t.version, t.nodes, t.ids) → HaveParentsBefore st.groups t.groups
    → Whole t (state_after_lines st (lines_behind t)) (made_by st empty (lines_behind t))
whole_made t st in_groups same below =
    let g = map group_line t.groups in
    let c = map cache_line t.caches in
    let p = map pool_line t.pools in
    let f = flat_map worker_command_lines t.workers in
    let l = last_lines t.sweep in
    let s1 = state_after_lines st g in
    let s2 = state_after_lines s1 c in
    let s3 = state_after_lines s2 p in
    let s4 = state_after_lines s3 f in
    let d1 = made_by st empty g in
    let d2 = made_by s1 d1 c in
    let d3 = made_by s2 d2 p in
    let d4 = made_by s3 d3 f in
    let before : is_workers s3.phase ≡ false = pools_phase t.pools s2 (caches_phase t.caches s1 (ap is_workers (groups_phase t.groups st ∙ in_groups))) in
    let declared : d3 ≡ record { groups = t.groups; caches = t.caches; pools = t.pools; complete = []; commands = []; sweep = None } =
    pools_made t.pools s2 d2
    ∙ ap (λ (d : Drafted). record d { pools = d.pools ++ t.pools }) (caches_made t.caches s1 d1 ∙ ap (λ (d : Drafted). record d { caches = d.caches ++ t.caches }) (groups_made t.groups st empty below)) in
    let no_sweep : d4.sweep ≡ None = no_sweep_yet t.workers s3 d3 ∙ ap (λ (d : Drafted). d.sweep) declared in
    let worked : completed s4.phase d4 ≡ record { groups = t.groups; caches = t.caches; pools = t.pools; complete = t.workers; commands = []; sweep = None } =
    workers_made t.workers s3 d3 ∙ ap (λ (d : Drafted). all_of d t.workers) (not_begun s3.phase d3 before ∙ ap (λ (d : Drafted). record d { commands = [] }) declared) in
    record {
      sizes_stay = ap sizes (parts_said g c p f l st) ∙ last_sizes t.sweep s4 ∙ workers_sizes t.workers s3 ∙ pools_sizes t.pools s2 ∙ caches_sizes t.caches s1 ∙ groups_sizes t.groups st ∙ same;
      drafted = parts_made g c p f l st empty ∙ ended t.sweep s4 d4 no_sweep ∙ ap (λ (d : Drafted). record d { sweep = t.sweep }) worked;
    }

whole_content : (t : Content) (st : State) (d : Drafted) → Whole t st d → content_by st d ≡ t
whole_content t st d w =
    ap (λ (n : ℕ × ℕ × ℕ). record { version = n.0; nodes = n.1; ids = n.2; groups = d.groups; caches = d.caches; pools = d.pools; workers = d.complete; sweep = d.sweep }) w.sizes_stay
    ∙ ap (λ (e : Drafted). record { version = t.version; nodes = t.nodes; ids = t.ids; groups = e.groups; caches = e.caches; pools = e.pools; workers = e.complete; sweep = e.sweep }) w.drafted

-- the lines of a script whose groups are below their parents make that script
pub content_made-lines_of : (t : Content) → IsValid t → content_made (lines_of t) ≡ t
unfolding state_after_lines made_by
content_made-lines_of t h =
    let st = after (after start Header (N t.version ∷ [])) Size (N t.nodes ∷ N t.ids ∷ []) in
    whole_content t _ _ (whole_made t st refl refl h.parents)

-- no two valid scripts are spelled alike
pub same_content : (t u : Content) → IsValid t → IsValid u → spell t ≡ spell u → t ≡ u
same_content t u g h e =
    sym (content_made-lines_of t g) ∙ ap content_made (once_lines (lines_of t) (lines_of u) g.lines h.lines e) ∙ content_made-lines_of u h
