-- SPDX-License-Identifier: GPL-2.0-only
-- The lines of what lines make are these lines, and what a script's lines make is the script.
use Rattle.shr_script.proofs.Common.{◌≡◌, ℕ, ◌+◌, Bool, true, List, [], ◌∷◌, ◌++◌, map, Option, None, Ok, refl, sym, ap, subst, ◌∙◌, append_assoc, flat_map, ◌==◌, append-nil, root_path, parent_path, GroupDecl, CacheDecl, PoolDecl, Command, Word, Number, Plain, Chosen, NameTest, PoolKinds, Item, N, W, IsOfClass, number_said, word_said, first, seventh, policy_place, policy_at, flag_place, place_of, Kind, Header, Size, Group, Cache, Pool, Worker, Work, Sweep, End, Verb, Put, On, Shrink, Balance, Offline, MkGroup, Register, Unregister, Isolate, Release, Grab, Phase, Start, Sizes, Groups, Caches, Pools, Workers, Swept, Done, State, start, Line, misplaced, unless, classes, verb_classes, group_class, node_class, after, IsLine, is_end_read, IsScript, Content, group_line, cache_line, pool_line, command_line, worker_command_lines, sweep_lines, end_line, declarations, lines_of, or_root, HaveParentsBefore, Drafted, empty, content_by, cache_decl, pool_decl, with_command, command_by, added, map_push, Class, Policies, Kinds, Starts, Walks, AreOf, second, third, fourth, fifth, sixth, behind_first, shape_is, chosen_below, flag_is, policy_is, header_line, size_line, worker_line, sweep_line}
use Rattle.std.proofs.lemmas.List.Concat.{flat_map-append}
use Rattle.shr_base.specs.declared.scripts.Sweep.{Sweep as SweepSaid}
use Rattle.shr_script.specs.Script.{state_after_lines, AreLines}
use Rattle.shr_script.proofs.LineLaws.{may_stand}
use Rattle.shr_script.specs.Drafted.{group_decl, sweep_by, made_by}

-- ---- one line says what its words say

abbrev of_kind : Kind → List Item → Line
of_kind k xs = (k, xs)

parts : (c : Class) (cs : List Class) (xs : List Item) → AreOf (c ∷ cs) xs → IsOfClass c (first xs) × AreOf cs (behind_first xs)
parts c cs [] h = absurd h
parts c cs (x ∷ xs) h = h

header_is : (st : State) (xs : List Item) → AreOf (classes st Header) xs → header_line (number_said (first xs)) ≡ (Header, xs)
header_is st xs h = ap (of_kind Header) (shape_is (classes st Header) xs h)

size_is : (st : State) (xs : List Item) → AreOf (classes st Size) xs → size_line (number_said (first xs)) (number_said (second xs)) ≡ (Size, xs)
size_is st xs h = ap (of_kind Size) (shape_is (classes st Size) xs h)

group_is : (st : State) (late : Bool) (xs : List Item) → AreOf (classes st (Group late)) xs → group_line (group_decl st late xs) ≡ (Group late, xs)
group_is st late xs h = ap (of_kind (Group late)) (shape_is (classes st (Group late)) xs h)

cache_items : (w : Word) (p p' s b f k k' o o' : ℕ) → p ≡ p' → k ≡ k' → o ≡ o'
    → (W w ∷ N p ∷ N s ∷ N b ∷ N f ∷ N k ∷ N o ∷ []) ≡ (W w ∷ N p' ∷ N s ∷ N b ∷ N f ∷ N k' ∷ N o' ∷ [])
cache_items w p p' s b f k k' o o' e1 e2 e3 = cc

cache_is : (st : State) (xs : List Item) → AreOf (classes st Cache) xs → cache_line (cache_decl xs) ≡ (Cache, xs)
cache_is st xs h =
    let a = parts (Plain NameTest) (Chosen Policies ∷ Number 0 1001 ∷ Number 0 20001 ∷ Number 0 20001 ∷ Chosen Kinds ∷ Chosen Starts ∷ []) xs h in
    let b = parts (Chosen Policies) (Number 0 1001 ∷ Number 0 20001 ∷ Number 0 20001 ∷ Chosen Kinds ∷ Chosen Starts ∷ []) (behind_first xs) a.1 in
    let c = parts (Number 0 1001) (Number 0 20001 ∷ Number 0 20001 ∷ Chosen Kinds ∷ Chosen Starts ∷ []) (behind_first (behind_first xs)) b.1 in
    let d = parts (Number 0 20001) (Number 0 20001 ∷ Chosen Kinds ∷ Chosen Starts ∷ []) (behind_first (behind_first (behind_first xs))) c.1 in
    let e = parts (Number 0 20001) (Chosen Kinds ∷ Chosen Starts ∷ []) (behind_first (behind_first (behind_first (behind_first xs)))) d.1 in
    let f = parts (Chosen Kinds) (Chosen Starts ∷ []) (behind_first (behind_first (behind_first (behind_first (behind_first xs))))) e.1 in
    let g = parts (Chosen Starts) [] (behind_first (behind_first (behind_first (behind_first (behind_first (behind_first xs)))))) f.1 in
    let p = number_said (second xs) in
    let k = number_said (sixth xs) in
    let o = number_said (seventh xs) in
    ap (of_kind Cache)
    (cache_items (word_said (first xs)) (policy_place (policy_at p)) p (number_said (third xs)) (number_said (fourth xs)) (number_said (fifth xs)) (flag_place (k == 1)) k (flag_place (o == 1)) o
    (policy_is p (chosen_below Policies (second xs) b.0)) (flag_is k (chosen_below Kinds (sixth xs) f.0)) (flag_is o (chosen_below Starts (seventh xs) g.0))
    ∙ shape_is (classes st Cache) xs h)

pool_is : (st : State) (xs : List Item) → AreOf (classes st Pool) xs → pool_line (pool_decl xs) ≡ (Pool, xs)
pool_is st xs h =
    let a = parts (Plain NameTest) (Number 0 1001 ∷ Number 0 20001 ∷ Number 0 20001 ∷ Chosen PoolKinds ∷ []) xs h in
    let b = parts (Number 0 1001) (Number 0 20001 ∷ Number 0 20001 ∷ Chosen PoolKinds ∷ []) (behind_first xs) a.1 in
    let c = parts (Number 0 20001) (Number 0 20001 ∷ Chosen PoolKinds ∷ []) (behind_first (behind_first xs)) b.1 in
    let d = parts (Number 0 20001) (Chosen PoolKinds ∷ []) (behind_first (behind_first (behind_first xs))) c.1 in
    let e = parts (Chosen PoolKinds) [] (behind_first (behind_first (behind_first (behind_first xs)))) d.1 in
    ap (of_kind Pool)
    (ap (λ (i : ℕ). W (word_said (first xs)) ∷ N (number_said (second xs)) ∷ N (number_said (third xs)) ∷ N (number_said (fourth xs)) ∷ N i ∷ []) (flag_is (number_said (fifth xs)) (chosen_below PoolKinds (fifth xs) e.0))
    ∙ shape_is (classes st Pool) xs h)

sweep_is : (st : State) (xs : List Item) → AreOf (classes st Sweep) xs → sweep_line (sweep_by xs) ≡ (Sweep, xs)
sweep_is st xs h =
    let a = parts (Number 0 13) (Chosen Walks ∷ []) xs h in
    let b = parts (Chosen Walks) [] (behind_first xs) a.1 in
    ap (of_kind Sweep)
    (ap (λ (i : ℕ). N (number_said (first xs)) ∷ N i ∷ []) (flag_is (number_said (second xs)) (chosen_below Walks (second xs) b.0)) ∙ shape_is (classes st Sweep) xs h)

worker_is : (st : State) (xs : List Item) → AreOf (classes st Worker) xs → worker_line ≡ (Worker, xs)
worker_is st xs h = ap (of_kind Worker) (shape_is (classes st Worker) xs h)

end_is : (st : State) (xs : List Item) → AreOf (classes st End) xs → end_line ≡ (End, xs)
end_is st xs h = ap (of_kind End) (shape_is (classes st End) xs h)

shrink_is : (st : State) (xs : List Item) → AreOf (verb_classes st Shrink) xs → command_line (command_by Shrink xs) ≡ (Work Shrink, xs)
shrink_is st xs h =
    let a = parts (group_class st) (node_class st ∷ Number 0 13 ∷ Chosen Walks ∷ []) xs h in
    let b = parts (node_class st) (Number 0 13 ∷ Chosen Walks ∷ []) (behind_first xs) a.1 in
    let c = parts (Number 0 13) (Chosen Walks ∷ []) (behind_first (behind_first xs)) b.1 in
    let d = parts (Chosen Walks) [] (behind_first (behind_first (behind_first xs))) c.1 in
    let k = number_said (fourth xs) in
    ap (of_kind (Work Shrink))
    (ap (λ (i : ℕ). N (number_said (first xs)) ∷ N (number_said (second xs)) ∷ N (number_said (third xs)) ∷ N i ∷ []) (flag_is k (chosen_below Walks (fourth xs) d.0)) ∙ shape_is (verb_classes st Shrink) xs h)

balance_is : (st : State) (xs : List Item) → AreOf (verb_classes st Balance) xs → command_line (command_by Balance xs) ≡ (Work Balance, xs)
balance_is st xs h =
    let a = parts (node_class st) (Number 0 13 ∷ Chosen Walks ∷ []) xs h in
    let b = parts (Number 0 13) (Chosen Walks ∷ []) (behind_first xs) a.1 in
    let c = parts (Chosen Walks) [] (behind_first (behind_first xs)) b.1 in
    let k = number_said (third xs) in
    ap (of_kind (Work Balance))
    (ap (λ (i : ℕ). N (number_said (first xs)) ∷ N (number_said (second xs)) ∷ N i ∷ []) (flag_is k (chosen_below Walks (third xs) c.0)) ∙ shape_is (verb_classes st Balance) xs h)

command_is : (st : State) (verb : Verb) (xs : List Item) → AreOf (verb_classes st verb) xs → command_line (command_by verb xs) ≡ (Work verb, xs)
command_is st Put xs h = ap (of_kind (Work Put)) (shape_is (verb_classes st Put) xs h)
command_is st (On act) xs h = ap (of_kind (Work (On act))) (shape_is (verb_classes st (On act)) xs h)
command_is st Shrink xs h = shrink_is st xs h
command_is st Balance xs h = balance_is st xs h
command_is st Offline xs h = ap (of_kind (Work Offline)) (shape_is (verb_classes st Offline) xs h)
command_is st MkGroup xs h = ap (of_kind (Work MkGroup)) (shape_is (verb_classes st MkGroup) xs h)
command_is st Register xs h = ap (of_kind (Work Register)) (shape_is (verb_classes st Register) xs h)
command_is st Unregister xs h = ap (of_kind (Work Unregister)) (shape_is (verb_classes st Unregister) xs h)
command_is st Isolate xs h = ap (of_kind (Work Isolate)) (shape_is (verb_classes st Isolate) xs h)
command_is st Release xs h = ap (of_kind (Work Release)) (shape_is (verb_classes st Release) xs h)
command_is st Grab xs h = ap (of_kind (Work Grab)) (shape_is (verb_classes st Grab) xs h)

-- ---- the lines so far

-- from the header to the last pool
abbrev declared_lines : State → Drafted → List Line
declared_lines st d = declarations st.version st.nodes st.ids d.groups d.caches d.pools

-- the lines that spell what was drafted so far
abbrev pub lines_up : Phase → State → Drafted → List Line
lines_up Start st d = []
lines_up Sizes st d = header_line st.version ∷ []
lines_up Groups st d = declared_lines st d
lines_up Caches st d = declared_lines st d
lines_up Pools st d = declared_lines st d
lines_up Workers st d = declared_lines st d ++ (flat_map worker_command_lines d.complete ++ worker_command_lines d.commands)
lines_up Swept st d = declared_lines st d ++ (flat_map worker_command_lines d.complete ++ sweep_lines d.sweep)
lines_up Done st d = declared_lines st d ++ (flat_map worker_command_lines d.complete ++ (sweep_lines d.sweep ++ end_line ∷ []))

-- no worker is complete yet, and there is no sweep
pub record HasNoWork (d : Drafted) : Type 0 where
  pub complete : d.complete ≡ []
  pub sweep : d.sweep ≡ None

-- what is not drafted yet
abbrev pub Blank : Phase → Drafted → Type 0
Blank Start d = (d.groups ≡ []) × (d.caches ≡ []) × (d.pools ≡ []) × HasNoWork d
Blank Sizes d = (d.groups ≡ []) × (d.caches ≡ []) × (d.pools ≡ []) × HasNoWork d
Blank Groups d = (d.caches ≡ []) × (d.pools ≡ []) × HasNoWork d
Blank Caches d = (d.pools ≡ []) × HasNoWork d
Blank Pools d = HasNoWork d
Blank Workers d = d.sweep ≡ None
Blank Swept d = Unit {0}
Blank Done d = Unit {0}

-- what was drafted is what was said
pub record Fits (st : State) (d : Drafted) : Type 0 where
  pub blank : Blank st.phase d
  pub paths : st.groups ≡ root_path ∷ map (λ g. g.path) d.groups
  pub below : HaveParentsBefore (root_path ∷ []) d.groups

-- a line more
pub record Grows (st : State) (d : Drafted) (k : Kind) (xs : List Item) : Type 0 where
  pub fits : Fits (after st k xs) (added st d k xs)
  pub lines : lines_up (after st k xs).phase (after st k xs) (added st d k xs) ≡ lines_up st.phase st d ++ (k, xs) ∷ []

AreBelow-push : (paths : List Word) (gs : List GroupDecl) (g : GroupDecl) → HaveParentsBefore paths gs → g.parent ≡ or_root (place_of (parent_path g.path) (paths ++ map (λ h. h.path) gs)) → HaveParentsBefore paths (gs ++ g ∷ [])
AreBelow-push paths [] g h e = (e ∙ ap (λ (ps : List Word). or_root (place_of (parent_path g.path) ps)) (append-nil paths), tt)
AreBelow-push paths (x ∷ gs) g h e =
    (h.0, AreBelow-push (paths ++ x.path ∷ []) gs g h.1 (e ∙ ap (λ (ps : List Word). or_root (place_of (parent_path g.path) ps)) (sym (append_assoc paths (x.path ∷ []) (map (λ y. y.path) gs)))))

ends_with : (D F M : List Line) (w l : Line) → D ++ ((F ++ ((w ∷ M) ++ [])) ++ l ∷ []) ≡ (D ++ (F ++ (w ∷ M))) ++ l ∷ []
ends_with D F M w l = simp (append-nil, append_assoc)

workers_end : (D : List Line) (complete : List (List Command)) (cs : List Command) (l m : Line) → l ≡ m
    → D ++ (flat_map worker_command_lines (complete ++ cs ∷ []) ++ l ∷ []) ≡ (D ++ (flat_map worker_command_lines complete ++ worker_command_lines cs)) ++ m ∷ []
workers_end D complete cs l m e = rw (flat_map-append worker_command_lines complete (cs ∷ []), e) (ends_with D (flat_map worker_command_lines complete) (map command_line cs) worker_line m)

more_commands : (D : List Line) (complete : List (List Command)) (cs : List Command) (c : Command) (m : Line) → command_line c ≡ m
    → D ++ (flat_map worker_command_lines complete ++ worker_command_lines (cs ++ c ∷ [])) ≡ (D ++ (flat_map worker_command_lines complete ++ worker_command_lines cs)) ++ m ∷ []
more_commands D complete cs c m e = rw (map_push command_line cs c, e) (simp append_assoc)

first_end : (D : List Line) (complete : List (List Command)) (l m : Line) → complete ≡ [] → l ≡ m → D ++ (flat_map worker_command_lines complete ++ l ∷ []) ≡ D ++ m ∷ []
first_end D complete l m none e = rw (none, e) refl

-- the end line where there is no sweep
end_alone : (s : Option SweepSaid) (l : Line) → s ≡ None → end_line ≡ l → (sweep_lines s ++ end_line ∷ []) ≡ l ∷ []
end_alone s l none e = rw (none, e) refl

swept_end : (D F S : List Line) (l m : Line) → l ≡ m → D ++ (F ++ (S ++ l ∷ [])) ≡ (D ++ (F ++ S)) ++ m ∷ []
swept_end D F S l m e = rw e (simp append_assoc)

groups_alone : (v nodes ids : ℕ) (gs : List GroupDecl) (g : GroupDecl) (m : Line) → group_line g ≡ m → declarations v nodes ids (gs ++ g ∷ []) [] [] ≡ declarations v nodes ids gs [] [] ++ m ∷ []
groups_alone v nodes ids gs g m e =
    ap (λ (xs : List Line). header_line v ∷ size_line nodes ids ∷ xs)
    (append-nil (map group_line (gs ++ g ∷ [])) ∙ map_push group_line gs g ∙ ap (λ (l : Line). map group_line gs ++ l ∷ []) e ∙ ap (λ (xs : List Line). xs ++ m ∷ []) (sym (append-nil (map group_line gs))))

more_groups : (v nodes ids : ℕ) (gs : List GroupDecl) (cs : List CacheDecl) (ps : List PoolDecl) (g : GroupDecl) (m : Line) → cs ≡ [] → ps ≡ [] → group_line g ≡ m → declarations v nodes ids (gs ++ g ∷ []) cs ps ≡ declarations v nodes ids gs cs ps ++ m ∷ []
more_groups v nodes ids gs cs ps g m none bare e =
    subst (λ (x : List CacheDecl). declarations v nodes ids (gs ++ g ∷ []) x ps ≡ declarations v nodes ids gs x ps ++ m ∷ []) (sym none)
    (subst (λ (x : List PoolDecl). declarations v nodes ids (gs ++ g ∷ []) [] x ≡ declarations v nodes ids gs [] x ++ m ∷ []) (sym bare) (groups_alone v nodes ids gs g m e))

caches_alone : (v nodes ids : ℕ) (gs : List GroupDecl) (cs : List CacheDecl) (c : CacheDecl) (m : Line) → cache_line c ≡ m → declarations v nodes ids gs (cs ++ c ∷ []) [] ≡ declarations v nodes ids gs cs [] ++ m ∷ []
caches_alone v nodes ids gs cs c m e =
    ap (λ (xs : List Line). header_line v ∷ size_line nodes ids ∷ (map group_line gs ++ xs))
    (append-nil (map cache_line (cs ++ c ∷ [])) ∙ map_push cache_line cs c ∙ ap (λ (l : Line). map cache_line cs ++ l ∷ []) e ∙ ap (λ (xs : List Line). xs ++ m ∷ []) (sym (append-nil (map cache_line cs))))
    ∙ ap (λ (xs : List Line). header_line v ∷ size_line nodes ids ∷ xs) (sym (append_assoc (map group_line gs) (map cache_line cs ++ []) (m ∷ [])))

more_caches : (v nodes ids : ℕ) (gs : List GroupDecl) (cs : List CacheDecl) (ps : List PoolDecl) (c : CacheDecl) (m : Line) → ps ≡ [] → cache_line c ≡ m → declarations v nodes ids gs (cs ++ c ∷ []) ps ≡ declarations v nodes ids gs cs ps ++ m ∷ []
more_caches v nodes ids gs cs ps c m bare e =
    subst (λ (x : List PoolDecl). declarations v nodes ids gs (cs ++ c ∷ []) x ≡ declarations v nodes ids gs cs x ++ m ∷ []) (sym bare) (caches_alone v nodes ids gs cs c m e)

more_pools : (v nodes ids : ℕ) (gs : List GroupDecl) (cs : List CacheDecl) (ps : List PoolDecl) (p : PoolDecl) (m : Line) → pool_line p ≡ m → declarations v nodes ids gs cs (ps ++ p ∷ []) ≡ declarations v nodes ids gs cs ps ++ m ∷ []
more_pools v nodes ids gs cs ps p m e = rw (map_push pool_line ps p, e) (simp append_assoc)

no_declarations : (v nodes ids : ℕ) (gs : List GroupDecl) (cs : List CacheDecl) (ps : List PoolDecl) (m : Line) → gs ≡ [] → cs ≡ [] → ps ≡ [] → size_line nodes ids ≡ m → declarations v nodes ids gs cs ps ≡ header_line v ∷ m ∷ []
no_declarations v nodes ids gs cs ps m e f g is = rw (e, f, g, is) refl

-- the same in this phase
abbrev at : Phase → State → State
at p st = record st { phase = p }

one_command : (st : State) (d : Drafted) (c : Command) (m : Line) → command_line c ≡ m → Fits (at Workers st) d
    → Fits (record (at Workers st) { commands = st.commands + 1 }) (with_command d c) × (lines_up Workers st (with_command d c) ≡ lines_up Workers st d ++ m ∷ [])
one_command st d c m e f =
    (record { blank = f.blank; paths = f.paths; below = f.below }, more_commands (declared_lines st d) d.complete d.commands c m e)

-- nothing was drafted behind the caches
abbrev IsBare : Drafted → Type 0
IsBare d = (d.pools ≡ []) × HasNoWork d

-- the groups that were drafted are those that were said
record HasGroups (groups : List Word) (d : Drafted) : Type 0 where
  paths : groups ≡ root_path ∷ map (λ g. g.path) d.groups
  below : HaveParentsBefore (root_path ∷ []) d.groups

one_cache : (p : Phase) (st : State) (d : Drafted) (xs : List Item) → AreOf (classes (at p st) Cache) xs → IsBare d → HasGroups st.groups d
    → Fits (after (at p st) Cache xs) (added (at p st) d Cache xs) × (declared_lines st (added (at p st) d Cache xs) ≡ declared_lines st d ++ (Cache, xs) ∷ [])
one_cache p st d xs a bare g =
    (record { blank = (bare.0, record { complete = bare.1.complete; sweep = bare.1.sweep }); paths = g.paths; below = g.below }, more_caches st.version st.nodes st.ids d.groups d.caches d.pools (cache_decl xs) (Cache, xs) bare.0 (cache_is (at p st) xs a))

one_pool : (p : Phase) (st : State) (d : Drafted) (xs : List Item) → AreOf (classes (at p st) Pool) xs → HasNoWork d → HasGroups st.groups d
    → Fits (after (at p st) Pool xs) (added (at p st) d Pool xs) × (declared_lines st (added (at p st) d Pool xs) ≡ declared_lines st d ++ (Pool, xs) ∷ [])
one_pool p st d xs a none g =
    (record { blank = record { complete = none.complete; sweep = none.sweep }; paths = g.paths; below = g.below }, more_pools st.version st.nodes st.ids d.groups d.caches d.pools (pool_decl xs) (Pool, xs) (pool_is (at p st) xs a))

-- the first worker, behind the declarations
first_worker : (p : Phase) (st : State) (d : Drafted) (xs : List Item) → AreOf (classes (at p st) Worker) xs → HasNoWork d → HasGroups st.groups d
    → Fits (after (at p st) Worker xs) (record d { commands = [] }) × (lines_up Workers st (record d { commands = [] }) ≡ declared_lines st d ++ (Worker, xs) ∷ [])
first_worker p st d xs a none g =
    (record { blank = none.sweep; paths = g.paths; below = g.below }, first_end (declared_lines st d) d.complete worker_line (Worker, xs) none.complete (worker_is (at p st) xs a))

-- the end, behind the declarations
no_worker : (p : Phase) (st : State) (d : Drafted) (xs : List Item) → AreOf (classes (at p st) End) xs → HasNoWork d → HasGroups st.groups d
    → Fits (after (at p st) End xs) (record d { commands = [] }) × (lines_up Done st (record d { commands = [] }) ≡ declared_lines st d ++ (End, xs) ∷ [])
no_worker p st d xs a none g = (
  record { blank = tt; paths = g.paths; below = g.below },
  ap (λ (ls : List Line). declared_lines st d ++ (flat_map worker_command_lines d.complete ++ ls)) (end_alone d.sweep (End, xs) none.sweep (end_is (at p st) xs a))
      ∙ first_end (declared_lines st d) d.complete (End, xs) (End, xs) none.complete refl,
)

groups_in : {st : State} {d : Drafted} → Fits st d → HasGroups st.groups d
groups_in f = record { paths = f.paths; below = f.below }

grow : (p : Phase) (k : Kind) (st : State) (d : Drafted) (xs : List Item) → unless (misplaced p k) k ≡ Ok k → AreOf (classes (at p st) k) xs → Fits (at p st) d → Grows (at p st) d k xs
grow Start Header st d xs e a f =
    record { fits = record { blank = f.blank; paths = f.paths; below = f.below }; lines = ap (λ (l : Line). l ∷ []) (header_is (at Start st) xs a) }
grow Start k st d xs e a f = absurd cc
grow Sizes Size st d xs e a f =
    record {
      fits = record { blank = (f.blank.1, f.blank.2, f.blank.3); paths = f.paths; below = f.below };
      lines = no_declarations st.version (number_said (first xs)) (number_said (second xs)) d.groups d.caches d.pools (Size, xs) f.blank.0 f.blank.1 f.blank.2 (size_is (at Sizes st) xs a);
    }
grow Sizes k st d xs e a f = absurd cc
grow Groups (Group late) st d xs e a f =
    let now = at Groups st in
    let g = group_decl now late xs in
    record {
      fits = record {
        blank = (f.blank.0, f.blank.1, record { complete = f.blank.2.complete; sweep = f.blank.2.sweep });
        paths = rw (map_push (λ (h : GroupDecl). h.path) d.groups g, f.paths) refl;
        below = AreBelow-push (root_path ∷ []) d.groups g f.below (ap (λ (ps : List Word). or_root (place_of (parent_path g.path) ps)) f.paths);
      };
      lines = more_groups st.version st.nodes st.ids d.groups d.caches d.pools g (Group late, xs) f.blank.0 f.blank.1 (group_is now late xs a);
    }
grow Groups Cache st d xs e a f = let o = one_cache Groups st d xs a (f.blank.1, f.blank.2) (groups_in f) in record { fits = o.0; lines = o.1 }
grow Groups Pool st d xs e a f = let o = one_pool Groups st d xs a f.blank.2 (groups_in f) in record { fits = o.0; lines = o.1 }
grow Groups Worker st d xs e a f = let o = first_worker Groups st d xs a f.blank.2 (groups_in f) in record { fits = o.0; lines = o.1 }
grow Groups End st d xs e a f = let o = no_worker Groups st d xs a f.blank.2 (groups_in f) in record { fits = o.0; lines = o.1 }
grow Groups k st d xs e a f = absurd cc
grow Caches Cache st d xs e a f = let o = one_cache Caches st d xs a f.blank (groups_in f) in record { fits = o.0; lines = o.1 }
grow Caches Pool st d xs e a f = let o = one_pool Caches st d xs a f.blank.1 (groups_in f) in record { fits = o.0; lines = o.1 }
grow Caches Worker st d xs e a f = let o = first_worker Caches st d xs a f.blank.1 (groups_in f) in record { fits = o.0; lines = o.1 }
grow Caches End st d xs e a f = let o = no_worker Caches st d xs a f.blank.1 (groups_in f) in record { fits = o.0; lines = o.1 }
grow Caches k st d xs e a f = absurd cc
grow Pools Pool st d xs e a f = let o = one_pool Pools st d xs a f.blank (groups_in f) in record { fits = o.0; lines = o.1 }
grow Pools Worker st d xs e a f = let o = first_worker Pools st d xs a f.blank (groups_in f) in record { fits = o.0; lines = o.1 }
grow Pools End st d xs e a f = let o = no_worker Pools st d xs a f.blank (groups_in f) in record { fits = o.0; lines = o.1 }
grow Pools k st d xs e a f = absurd cc
grow Workers Worker st d xs e a f =
    record {
      fits = record { blank = f.blank; paths = f.paths; below = f.below };
      lines = workers_end (declared_lines st d) d.complete d.commands worker_line (Worker, xs) (worker_is (at Workers st) xs a);
    }
grow Workers Sweep st d xs e a f =
    record {
      fits = record { blank = tt; paths = f.paths; below = f.below };
      lines = workers_end (declared_lines st d) d.complete d.commands (sweep_line (sweep_by xs)) (Sweep, xs) (sweep_is (at Workers st) xs a);
    }
grow Workers End st d xs e a f =
    record {
      fits = record { blank = tt; paths = f.paths; below = f.below };
      lines = ap (λ (ls : List Line). declared_lines st d ++ (flat_map worker_command_lines (d.complete ++ d.commands ∷ []) ++ ls)) (end_alone d.sweep (End, xs) f.blank (end_is (at Workers st) xs a))
          ∙ workers_end (declared_lines st d) d.complete d.commands (End, xs) (End, xs) refl;
    }
grow Workers (Work verb) st d xs e a f =
    let o = one_command st d (command_by verb xs) (Work verb, xs) (command_is (at Workers st) verb xs a) f in record { fits = o.0; lines = o.1 }
grow Workers k st d xs e a f = absurd cc
grow Swept End st d xs e a f =
    record {
      fits = record { blank = tt; paths = f.paths; below = f.below };
      lines = swept_end (declared_lines st d) (flat_map worker_command_lines d.complete) (sweep_lines d.sweep) end_line (End, xs) (end_is (at Swept st) xs a);
    }
grow Swept k st d xs e a f = absurd cc
grow Done k st d xs e a f = absurd cc

-- a line that may stand adds itself
pub grows : (st : State) (d : Drafted) (l : Line) → IsLine st l → Fits st d → Grows st d l.0 l.1
grows st d l h f = grow st.phase l.0 st d l.1 (may_stand st.version st.phase l.0 l.0 h.stands) h.words f

-- ---- lines, and what they make

-- what lines made of a draft is spelled by the lines before and these
pub record Made (st : State) (d : Drafted) (ls : List Line) : Type 0 where
  pub fits : Fits (state_after_lines st ls) (made_by st d ls)
  pub lines : lines_up (state_after_lines st ls).phase (state_after_lines st ls) (made_by st d ls) ≡ lines_up st.phase st d ++ ls

-- lines that may stand make a draft that they spell
pub made_lines : (ls : List Line) (st : State) (d : Drafted) → AreLines st ls → Fits st d → Made st d ls
unfolding state_after_lines made_by AreLines
made_lines [] st d h f = record { fits = f; lines = sym (append-nil (lines_up st.phase st d)) }
made_lines (l ∷ ls) st d h f =
    let g = grows st d l h.0 f in
    let m = made_lines ls (after st l.0 l.1) (added st d l.0 l.1) h.1 g.fits in
    record { fits = m.fits; lines = m.lines ∙ ap (λ (ms : List Line). ms ++ ls) g.lines ∙ append_assoc (lines_up st.phase st d) (l ∷ []) ls }

empty_fits : Fits start empty
empty_fits = record { blank = (refl, refl, refl, record { complete = refl; sweep = refl }); paths = refl; below = tt }

is_done_only : (p : Phase) → is_end_read p ≡ true → p ≡ Done
is_done_only Start e = absurd cc
is_done_only Sizes e = absurd cc
is_done_only Groups e = absurd cc
is_done_only Caches e = absurd cc
is_done_only Pools e = absurd cc
is_done_only Workers e = absurd cc
is_done_only Swept e = absurd cc
is_done_only Done e = refl

-- the script that lines make
abbrev pub content_made : List Line → Content
content_made ls = content_by (state_after_lines start ls) (made_by start empty ls)

-- and its lines are these lines
pub lines_of-made : (ls : List Line) → IsScript ls → lines_of (content_made ls) ≡ ls
lines_of-made ls h =
    let m = made_lines ls start empty h.lines empty_fits in
    let st = state_after_lines start ls in
    ap (λ (p : Phase). lines_up p st (made_by start empty ls)) (sym (is_done_only st.phase h.ended)) ∙ m.lines

-- in the script that lines make each group is below that of its parent path
pub parents-made : (ls : List Line) → IsScript ls → HaveParentsBefore (root_path ∷ []) (content_made ls).groups
parents-made ls h = (made_lines ls start empty h.lines empty_fits).fits.below
