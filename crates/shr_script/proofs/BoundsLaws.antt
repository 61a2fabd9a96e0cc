-- SPDX-License-Identifier: GPL-2.0-only
-- A valid script is within its bounds.
use Rattle.shr_script.proofs.Common.{◌≡◌, ℕ, zero, suc, ◌+◌, ◌≤◌, ◌<◌, Bool, true, false, cond, List, [], ◌∷◌, ◌++◌, length, map, inl, inr, ◌⊎◌, Option, Some, None, Ok, refl, sym, ap, subst, ◌∙◌, arith, flat_map, nat_le, nat_lt, sum_by, IfSome, AllByRecursion, length_push, sum_by-cons, is_path, GroupDecl, CacheDecl, PoolDecl, Command, ◌>>=◌, Word, L, W, IsOfClass, flag_place, bind_ok, Group, Cache, Pool, Phase, Start, Sizes, Groups, Caches, Pools, Workers, Swept, Done, State, start, after, has, refused_if, most_ids, most_groups, is_served, misplaced, unless, IsLine, Content, group_line, cache_line, pool_line, worker_command_lines, sweep_lines, end_line, declarations, lines_of, IsValid, IsPoolWithin, IsSweepWithin, count_by, IsWithin}
use Rattle.shr_model.specs.Words.{is_name}
use Rattle.shr_base.specs.declared.scripts.Code.TheVariants as codes_of
use Rattle.shr_base.specs.declared.scripts.Sweep.{Sweep}
use Rattle.shr_words.specs.Classes.{passes, Limit}
use Rattle.shr_script.specs.declared.kind.Kind.TheVariants as kinds
use Rattle.shr_script.specs.Lines.{cache_rule}
use Rattle.shr_script.specs.Script.{state_after_lines, AreLines}
use Rattle.shr_script.proofs.LineLaws.{may_stand, is_taken}
use Rattle.shr_script.proofs.ContentLaws.{is_workers, caches_phase, pools_phase}
use Rattle.shr_script.proofs.HierarchyLaws.{hierarchy_is}
use Rattle.shr_script.proofs.GrowthLaws.{group_room, most_within, Few, few_start, count_lines, not_refused}
use Rattle.shr_script.proofs.SaidLaws.{cut_lines, on_in, cache_items, pool_items, caches_said, workers_said, sized, grouped, cached, declared_state, declared_in_turn, begun, parts_of}
use Rattle.shr_script.proofs.CommandBounds.{workers_within}
use Rattle.shr_model.proofs.BagLaws.{each_weaker}
use Rattle.shr_model.proofs.Booleans.{more_of}

-- ---- what each group and each cache keeps

-- what a group keeps
record IsGroupWithin (g : GroupDecl) : Type 0 where
  path : is_path g.path ≡ true
  limit : IfSome g.limit (λ n. n ≤ 1000000)

limit_within : (o : Option ℕ) → IsOfClass Limit (L o) → IfSome o (λ n. n ≤ 1000000)
limit_within None h = tt
limit_within (Some n) h = omega (arith, h)

groups_within : (gs : List GroupDecl) (st : State) → AreLines st (map group_line gs) → AllByRecursion IsGroupWithin gs
unfolding AreLines passes
groups_within [] st h = tt
groups_within (g ∷ gs) st h =
    (record { path = h.0.words.0; limit = limit_within g.limit h.0.words.1.0 }, groups_within gs (after st (Group g.later) (W g.path ∷ L g.limit ∷ [])) h.1)

-- what a cache keeps
record IsCacheWithin (c : CacheDecl) : Type 0 where
  name : is_name c.name ≡ true
  seeks : c.seeks ≤ 1000
  batch : c.batch ≤ 20000
  floor : c.floor ≤ 20000

cache_within : (st : State) (c : CacheDecl) → IsLine st (cache_line c) → IsCacheWithin c
unfolding passes
cache_within st c h =
    let seeks = h.words.1.1.0.1 in
    let batch = h.words.1.1.1.0.1 in
    let floor = h.words.1.1.1.1.0.1 in
    record { name = h.words.0; seeks = omega (arith, seeks); batch = omega (arith, batch); floor = omega (arith, floor) }

caches_within : (cs : List CacheDecl) (st : State) → AreLines st (map cache_line cs) → AllByRecursion IsCacheWithin cs
unfolding AreLines
caches_within [] st h = tt
caches_within (c ∷ cs) st h = (cache_within st c h.0, caches_within cs (after st Cache (cache_items c)) h.1)

pools_within : (ps : List PoolDecl) (st : State) → AreLines st (map pool_line ps) → AllByRecursion IsPoolWithin ps
unfolding AreLines passes
pools_within [] st h = tt
pools_within (p ∷ ps) st h =
    let seeks = h.0.words.1.0.1 in
    let batch = h.0.words.1.1.0.1 in
    let floor = h.0.words.1.1.1.0.1 in
    (record { name = h.0.words.0; seeks = omega (arith, seeks); batch = omega (arith, batch); floor = omega (arith, floor) }, pools_within ps (after st Pool (pool_items p)) h.1)

true_or_false : (b : Bool) → b ≡ true → b ≡ false → ⊥
true_or_false true is e = cc
true_or_false false is e = cc

-- where the lines of pools aren't taken there are none
none_taken : (ps : List PoolDecl) (st : State) → AreLines st (map pool_line ps) → is_served st.version kinds.Pool ≡ false → ps ≡ []
unfolding AreLines
none_taken [] st h e = refl
none_taken (p ∷ ps) st h e = absurd (true_or_false (is_served st.version kinds.Pool) (is_taken st.version st.phase kinds.Pool kinds.Pool h.0.stands) e)

-- a cache that is declared leaves no more on than there are ids
room_for : (st : State) (name : Word) (on : ℕ) → cache_rule st name on ≡ Ok tt → st.on + on ≤ st.ids
unfolding cache_rule
room_for st name on e =
    let a = bind_ok (refused_if (has st.caches name) codes_of.Exists) (λ _. refused_if (nat_le 250 (length st.caches)) codes_of.TooMany >>= λ _. refused_if (nat_lt st.ids (st.on + on)) codes_of.TooMany) tt e in
    let b = bind_ok (refused_if (nat_le 250 (length st.caches)) codes_of.TooMany) (λ _. refused_if (nat_lt st.ids (st.on + on)) codes_of.TooMany) tt a.2 in
    more_of st.ids (st.on + on) (not_refused (nat_lt st.ids (st.on + on)) codes_of.TooMany b.2)

on_within : (cs : List CacheDecl) (st : State) → AreLines st (map cache_line cs) → st.on ≤ st.ids → st.on + count_by on_in cs ≤ st.ids
unfolding AreLines
on_within [] st h le = omega (arith, le)
on_within (c ∷ cs) st h le =
    let here = room_for st c.name (flag_place c.on) h.0.rule in
    let behind = on_within cs (after st Cache (cache_items c)) h.1 here in
    let sum : count_by on_in (c ∷ cs) ≡ flag_place c.on + count_by on_in cs = sum_by-cons (λ (x : CacheDecl). cond x.on 1 0) c cs in
    omega (arith, behind, sum)

-- the groups of these lines are no more than the version allows
groups_few : (gs : List GroupDecl) (st : State) → AreLines st (map group_line gs) → length st.groups ≤ most_groups st.version → length st.groups + length gs ≤ most_groups st.version
unfolding AreLines
groups_few [] st h le = omega (arith, le)
groups_few (g ∷ gs) st h le =
    let lt = group_room st g.later g.path h.0.rule in
    let long = length_push st.groups g.path in
    let behind = groups_few gs (after st (Group g.later) (W g.path ∷ L g.limit ∷ [])) h.1 (omega (arith, lt, long)) in
    omega (arith, behind, long)

one_or_two : (v : ℕ) → 0 < v → v < 3 → (v ≡ 1) ⊎ (v ≡ 2)
one_or_two zero some low = absurd (omega (arith, some))
one_or_two (suc zero) some low = inl refl
one_or_two (suc (suc zero)) some low = inr refl
one_or_two (suc (suc (suc v))) some low = absurd (omega (arith, low))

-- ---- a valid script

record IsCounted (t : Content) : Type 0 where
  caches : length t.caches ≤ 250
  pools : length t.pools ≤ 64
  workers : length t.workers ≤ 64
  commands : sum_by length t.workers ≤ 20000

counted : (t : Content) → AreLines start (lines_of t) → IsCounted t
unfolding state_after_lines
counted t h =
    let f = flat_map worker_command_lines t.workers in
    let declared = declared_state t in
    let b = begun t in
    let all = declarations t.version t.nodes t.ids t.groups t.caches t.pools in
    let front = cut_lines all (f ++ (sweep_lines t.sweep ++ end_line ∷ [])) start h in
    let first : Few declared = (count_lines all start front.0 few_start).few in
    let last : Few (state_after_lines declared f) = (count_lines f declared (cut_lines f (sweep_lines t.sweep ++ end_line ∷ []) declared front.1).0 first).few in
    let work = workers_said t.workers declared in
    let caches = b.declared.caches in
    let pools = b.declared.pools in
    record {
      caches = omega (arith, first.caches, caches);
      pools = omega (arith, first.pools, pools);
      workers = omega (arith, last.workers, work.workers, b.workers);
      commands = omega (arith, last.commands, work.commands, b.commands);
    }

-- ---- the sweep

-- where a sweep stands, and else the end
abbrev worked : Content → State
worked t = state_after_lines (declared_state t) (flat_map worker_command_lines t.workers)

worked_version : (t : Content) → (worked t).version ≡ t.version
worked_version t = (workers_said t.workers (declared_state t)).version ∙ (begun t).declared.version

-- a sweep stands among the workers
among : (p : Phase) → unless (misplaced p kinds.Sweep) kinds.Sweep ≡ Ok kinds.Sweep → is_workers p ≡ true
among Start e = absurd cc
among Sizes e = absurd cc
among Groups e = absurd cc
among Caches e = absurd cc
among Pools e = absurd cc
among Workers e = refl
among Swept e = absurd cc
among Done e = absurd cc

none_yet : (t : Content) → is_workers (declared_state t).phase ≡ false
none_yet t = ap (λ (s : State). is_workers s.phase) (declared_in_turn t) ∙ pools_phase t.pools (cached t) (caches_phase t.caches (grouped t) refl)

some_worker : (t : Content) (ws : List (List Command)) → is_workers (state_after_lines (declared_state t) (flat_map worker_command_lines ws)).phase ≡ true → 0 < length ws
unfolding state_after_lines
some_worker t [] e = absurd (true_or_false (is_workers (declared_state t).phase) e (none_yet t))
some_worker t (w ∷ ws) e = omega arith

sweep_within : (t : Content) (o : Option Sweep) → AreLines (worked t) (sweep_lines o) → IfSome o (IsSweepWithin t)
unfolding AreLines
sweep_within t None h = tt
sweep_within t (Some z) h =
    let st = worked t in
    let urgent = h.0.words.0.1 in
    record { urgent = omega (arith, urgent); some_worker = some_worker t t.workers (among st.phase (may_stand st.version st.phase kinds.Sweep kinds.Sweep h.0.stands)) }

none_swept : (t : Content) (o : Option Sweep) → AreLines (worked t) (sweep_lines o) → is_served t.version kinds.Sweep ≡ false → o ≡ None
unfolding AreLines
none_swept t None h e = refl
none_swept t (Some z) h e =
    let st = worked t in
    let here = is_taken st.version st.phase kinds.Sweep kinds.Sweep h.0.stands in
    absurd (true_or_false (is_served t.version kinds.Sweep) (subst (λ (v : ℕ). is_served v kinds.Sweep ≡ true) (worked_version t) here) e)

-- a valid script is within its bounds
pub within_of_valid : (t : Content) → IsValid t → IsWithin t
within_of_valid t h =
    let p = parts_of t h.lines.lines in
    let n = counted t h.lines.lines in
    let gs = groups_within t.groups (sized t) p.groups in
    let cs = caches_within t.caches (grouped t) p.caches in
    let above = hierarchy_is t h.parents p.groups in
    let on = on_within t.caches (grouped t) p.caches (omega arith) in
    let version = p.header.words.0 in
    let nodes = p.size.words.0 in
    let ids = p.size.words.1.0 in
    let most = most_within t.version in
    let root : length (sized t).groups ≡ 1 = refl in
    let groups = groups_few t.groups (sized t) p.groups (omega (arith, root, most)) in
    record {
      version = one_or_two t.version version.0 version.1;
      some_node = omega (arith, nodes);
      nodes = omega (arith, nodes);
      some_id = omega (arith, ids);
      ids = omega (arith, ids, most);
      first_ids = λ one. let first : most_ids t.version ≡ 64 = ap most_ids one in omega (arith, ids, first);
      groups = omega (arith, groups, most);
      first_groups = λ one. let first : most_groups t.version ≡ 64 = ap most_groups one in omega (arith, groups, first);
      caches = n.caches;
      on = omega (arith, on);
      workers = n.workers;
      commands = n.commands;
      paths = each_weaker IsGroupWithin (λ (x : GroupDecl). is_path x.path ≡ true) (λ x w. w.path) t.groups gs;
      limits = each_weaker IsGroupWithin (λ (x : GroupDecl). IfSome x.limit (λ n. n ≤ 1000000)) (λ x w. w.limit) t.groups gs;
      names = each_weaker IsCacheWithin (λ (x : CacheDecl). is_name x.name ≡ true) (λ x w. w.name) t.caches cs;
      seeks = each_weaker IsCacheWithin (λ (x : CacheDecl). x.seeks ≤ 1000) (λ x w. w.seeks) t.caches cs;
      batch = each_weaker IsCacheWithin (λ (x : CacheDecl). x.batch ≤ 20000) (λ x w. w.batch) t.caches cs;
      floor = each_weaker IsCacheWithin (λ (x : CacheDecl). x.floor ≤ 20000) (λ x w. w.floor) t.caches cs;
      pools = n.pools;
      each_pool = pools_within t.pools (cached t) p.pools;
      sweep = sweep_within t t.sweep p.sweep;
      no_pools = λ unserved. none_taken t.pools (cached t) p.pools (subst (λ (v : ℕ). is_served v kinds.Pool ≡ false) (sym (ap (λ (s : State). s.version) (caches_said t.caches (grouped t)))) unserved);
      no_sweep = none_swept t t.sweep p.sweep;
      tree = above.tree;
      hierarchy = above;
      each = workers_within t t.workers (declared_state t) (begun t).declared p.workers;
    }
