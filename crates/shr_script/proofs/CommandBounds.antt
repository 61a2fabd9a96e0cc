-- SPDX-License-Identifier: GPL-2.0-only
-- What the commands of a valid script name is there.
use Rattle.shr_script.proofs.Common.{◌≡◌, ℕ, ◌+◌, ◌≤◌, ◌<◌, Bool, true, false, List, [], ◌∷◌, length, map, get_or, sym, subst, ◌∙◌, arith, flat_map, ◌&&◌, ◌==◌, AllByRecursion, is_later, Code, Command, Target, Word, NameTest, Plain, Number, N, W, IsOfClass, place_takes, Worker, Isolate, Release, Grab, State, after, group_class, later_class, node_class, pool_class, state_after_lines, IsLine, Content, command_line, worker_command_lines, IsIsolationWithin, IsPoolCommandWithin, IsCommandWithin, content_later, and_true, cache_class, serves_pools, serves_isolation, IsGroup, IsCache, IsPool, IsObjectWithin, IsWalkWithin, IfServed}
use Rattle.std.proofs.lemmas.Bool.{eqb-true}
use Rattle.shr_base.specs.declared.scripts.Code.TheVariants as codes_of
use Rattle.shr_base.specs.declared.scripts.Command.TheVariants as commands
use Rattle.shr_words.specs.Classes.{Test, PathTest, KeyTest, passes, Listed}
use Rattle.shr_script.specs.declared.kind.Kind.TheVariants as kinds
use Rattle.shr_script.specs.Script.{AreLines}
use Rattle.shr_script.proofs.LineLaws.{is_taken}
use Rattle.shr_script.proofs.SaidLaws.{cut_lines, Declared, command_said, commands_said}

-- ---- what each command keeps

listed_below : (test : Test) (code : Code) (ws : List Word) (i : ℕ) → IsOfClass (Listed test code ws) (N i) → i < length ws
listed_below test code ws i h = (place_takes (get_or ws i []) ws i h.1).1

group_within : (t : Content) (st : State) (group : ℕ) → Declared t st → IsOfClass (group_class st) (N group) → IsGroup t group
group_within t st group d h =
    let below = listed_below PathTest codes_of.UnknownGroup st.groups group h in
    let long = d.groups in
    omega (arith, below, long)

-- a group that is made by a command is later
later_within : (t : Content) (st : State) (group : ℕ) → Declared t st → IsOfClass (later_class st) (N group) → IsGroup t group × (is_later (content_later t) group ≡ true)
later_within t st group d h =
    (group_within t st group d (h.0, h.1), subst (λ (later : List Bool). is_later later group ≡ true) d.later h.2)

cache_there : (t : Content) (st : State) (decl : ℕ) → Declared t st → IsOfClass (cache_class st) (N decl) → IsCache t decl
cache_there t st decl d h =
    let below = listed_below NameTest codes_of.UnknownCache st.caches decl h in
    let long = d.caches in
    omega (arith, below, long)

pool_there : (t : Content) (st : State) (pool : ℕ) → Declared t st → IsOfClass (pool_class st) (N pool) → IsPool t pool
pool_there t st pool d h =
    let below = listed_below NameTest codes_of.UnknownCache st.pools pool h in
    let long = d.pools in
    omega (arith, below, long)

node_within : (t : Content) (st : State) (node : ℕ) → Declared t st → IsOfClass (node_class st) (N node) → node < t.nodes
node_within t st node d h =
    let below = h.1 in
    let same = d.nodes in
    omega (arith, below, same)

object_within : (t : Content) (st : State) (at : Target) (key : Word) → Declared t st → IsOfClass (group_class st) (N at.group) → IsOfClass (node_class st) (N at.node) → IsOfClass (cache_class st) (N at.decl) → IsOfClass (Plain KeyTest) (W key) → IsObjectWithin t at key
unfolding passes
object_within t st at key d g n c k =
    record { in_group = group_within t st at.group d g; on_node = node_within t st at.node d n; in_cache = cache_there t st at.decl d c; is_word = k }

walk_within : (t : Content) (st : State) (node priority : ℕ) → Declared t st → IsOfClass (node_class st) (N node) → IsOfClass (Number 0 13) (N priority) → IsWalkWithin t node priority
walk_within t st node priority d n p = let below = p.1 in record { on_node = node_within t st node d n; urgent = omega (arith, below) }

if_served : (served : Bool) (P : Type 0) → served ≡ true → P → IfServed served P
if_served true P e p = p
if_served false P e p = absurd cc

-- a part whose lines are taken is served, and the version is 2
taken_part : (t : Content) (st : State) (served : Bool) → Declared t st → (served && st.version == 2) ≡ true → (served ≡ true) × (t.version ≡ 2)
taken_part t st served d e =
    let both = and_true served (st.version == 2) e in
    let two : st.version ≡ 2 = eqb-true st.version 2 both.1 in
    (both.0, sym d.version ∙ two)

isolation_within : (t : Content) (st : State) (at : Target) (budget : ℕ) → Declared t st → IsLine st (command_line (commands.Isolate at budget))
    → IfServed serves_isolation (IsIsolationWithin t at budget)
isolation_within t st at budget d h =
    let part = taken_part t st serves_isolation d (is_taken st.version st.phase (kinds.Work Isolate) (kinds.Work Isolate) h.stands) in
    let few = h.words.1.1.1.0.1 in
    if_served serves_isolation (IsIsolationWithin t at budget) part.0
    (record {
      version = part.1;
      in_group = group_within t st at.group d h.words.0;
      on_node = node_within t st at.node d h.words.1.0;
      in_cache = cache_there t st at.decl d h.words.1.1.0;
      few = omega (arith, few);
    })

release_within : (t : Content) (st : State) (node pool units : ℕ) → Declared t st → IsLine st (command_line (commands.Release node pool units))
    → IfServed serves_pools (IsPoolCommandWithin t node pool × (1 ≤ units) × (units ≤ 20000))
release_within t st node pool units d h =
    let part = taken_part t st serves_pools d (is_taken st.version st.phase (kinds.Work Release) (kinds.Work Release) h.stands) in
    let some = h.words.1.1.0.0 in
    let few = h.words.1.1.0.1 in
    if_served serves_pools (IsPoolCommandWithin t node pool × (1 ≤ units) × (units ≤ 20000)) part.0
    (record { version = part.1; on_node = node_within t st node d h.words.0; in_pool = pool_there t st pool d h.words.1.0 }, omega (arith, some), omega (arith, few))

grab_within : (t : Content) (st : State) (node pool : ℕ) → Declared t st → IsLine st (command_line (commands.Grab node pool)) → IfServed serves_pools (IsPoolCommandWithin t node pool)
grab_within t st node pool d h =
    let part = taken_part t st serves_pools d (is_taken st.version st.phase (kinds.Work Grab) (kinds.Work Grab) h.stands) in
    if_served serves_pools (IsPoolCommandWithin t node pool) part.0
    (record { version = part.1; on_node = node_within t st node d h.words.0; in_pool = pool_there t st pool d h.words.1.0 })

command_within : (t : Content) (st : State) (c : Command) → Declared t st → IsLine st (command_line c) → IsCommandWithin t c
command_within t st (commands.Put at key value) d h = (object_within t st at key d h.words.0 h.words.1.0 h.words.1.1.0 h.words.1.1.1.0, h.words.1.1.1.1.0)
command_within t st (commands.On at key act) d h = object_within t st at key d h.words.0 h.words.1.0 h.words.1.1.0 h.words.1.1.1.0
command_within t st (commands.Shrink group node priority nofs) d h = (group_within t st group d h.words.0, walk_within t st node priority d h.words.1.0 h.words.1.1.0)
command_within t st (commands.Balance node priority nofs) d h = walk_within t st node priority d h.words.0 h.words.1.0
command_within t st (commands.Offline group) d h = group_within t st group d h.words.0
command_within t st (commands.MkGroup group) d h = later_within t st group d h.words.0
command_within t st (commands.Register decl) d h = cache_there t st decl d h.words.0
command_within t st (commands.Unregister decl) d h = cache_there t st decl d h.words.0
command_within t st (commands.Isolate at budget) d h = isolation_within t st at budget d h
command_within t st (commands.Release node pool units) d h = release_within t st node pool units d h
command_within t st (commands.Grab node pool) d h = grab_within t st node pool d h

-- commands change nothing of what is declared
still_declared : (t : Content) (st next : State) (n : ℕ) → next ≡ record st { commands = n } → Declared t st → Declared t next
still_declared t st next n e d =
    let kept : Declared t (record st { commands = n }) = record { version = d.version; nodes = d.nodes; groups = d.groups; later = d.later; caches = d.caches; pools = d.pools } in
    subst (Declared t) (sym e) kept

commands_within : (t : Content) (cs : List Command) (st : State) → Declared t st → AreLines st (map command_line cs) → AllByRecursion (IsCommandWithin t) cs
unfolding AreLines
commands_within t [] st d h = tt
commands_within t (c ∷ cs) st d h =
    let next = after st (command_line c).0 (command_line c).1 in
    (command_within t st c d h.0, commands_within t cs next (still_declared t st next (st.commands + 1) (command_said c st) d) h.1)

pub workers_within : (t : Content) (ws : List (List Command)) (st : State) → Declared t st → AreLines st (flat_map worker_command_lines ws) → AllByRecursion (AllByRecursion (IsCommandWithin t)) ws
unfolding AreLines
workers_within t [] st d h = tt
workers_within t (w ∷ ws) st d h =
    let s = after st Worker [] in
    let here : Declared t s = record { version = d.version; nodes = d.nodes; groups = d.groups; later = d.later; caches = d.caches; pools = d.pools } in
    let cut = cut_lines (map command_line w) (flat_map worker_command_lines ws) s h.1 in
    let behind = state_after_lines s (map command_line w) in
    (commands_within t w s here cut.0, workers_within t ws behind (still_declared t s behind (s.commands + length w) (commands_said w s) here) cut.1)
