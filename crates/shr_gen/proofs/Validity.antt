-- SPDX-License-Identifier: GPL-2.0-only
-- A generated script is valid: each of its lines may stand where it stands.
use Rattle.shr_gen.proofs.Common.{◌≡◌, ℕ, zero, suc, ◌+◌, ◌*◌, ◌<◌, ◌≤◌, ◌%◌, Bool, true, false, List, [], ◌∷◌, ◌++◌, length, map, refl, sym, ap, ◌∙◌, arith, codes, Some, None, range_with_len, nat_tests, map-range_with_len_more, root_path, worker_path, key_text, value_text, group_at, generated_command, commands_from, drawn_after, chosen_by, ◌-◌, cond, get_or, subst, nat_le, nat_lt, Ok, flat_map, ◌==◌, length-map-range_with_len, get_or-map-range_with_len, MayBeGenerated, generated, worker_group, node_by, cache_by, priority_by, target_by, is_offline, three_caches}
use Rattle.std.proofs.lemmas.List.{map_push}
use Rattle.shr_base.specs.declared.scripts.Act.TheVariants.{Get}
use Rattle.shr_base.specs.declared.scripts.Code.TheVariants as codes_of
use Rattle.shr_base.specs.declared.scripts.Command.{Command}
use Rattle.shr_base.specs.declared.scripts.GroupDecl.{GroupDecl}
use Rattle.shr_base.specs.declared.scripts.CacheDecl.{CacheDecl}
use Rattle.shr_base.specs.declared.scripts.Command.TheVariants.{Put, On, Shrink, Balance, Offline, MkGroup, Register, Unregister, Isolate, Release, Grab}
use Rattle.shr_words.specs.Classes.{Word, N, IsOfClass, Listed, Number, Chosen, PathTest, NameTest, Walks, place_of, passes}
use Rattle.shr_script.specs.declared.kind.Kind.TheVariants as kind
use Rattle.shr_script.specs.declared.kind.Phase.{Phase}
use Rattle.shr_script.specs.declared.kind.Phase.TheVariants.{Groups, Caches, Workers, Done}
use Rattle.shr_script.specs.Lines.{State, start, Line, allowed, after, group_rule, cache_rule, refused_if}
use Rattle.shr_script.specs.Script.{state_after_lines, IsLine, AreLines, is_end_read}
use Rattle.shr_script.specs.Content.{group_line, cache_line, command_line, worker_line, worker_command_lines, end_line, header_line, size_line, lines_of, or_root, HaveParentsBefore, IsValid}
use Rattle.shr_gen.proofs.Texts.{is_key_of, is_value_of, path_fit, place_in_paths, absent}

-- ---- lines one after another

-- these lines may stand where this was said, and then that was said
record Goes (st end : State) (ls : List Line) : Type 0 where
  lines : AreLines st ls
  ends : state_after_lines st ls ≡ end

goes_none : (st : State) → Goes st st []
unfolding AreLines state_after_lines
goes_none st = record { lines = tt; ends = refl }

goes_on : (st end : State) (l : Line) (ls : List Line) → IsLine st l → Goes (after st l.0 l.1) end ls → Goes st end (l ∷ ls)
unfolding AreLines state_after_lines
goes_on st end l ls may rest = record { lines = (may, rest.lines); ends = rest.ends }

goes_then : (ls ms : List Line) (st mid end : State) → Goes st mid ls → Goes mid end ms → Goes st end (ls ++ ms)
unfolding AreLines state_after_lines
goes_then [] ms st mid end one two = subst (λ (s : State). Goes s end ms) (sym one.ends) two
goes_then (l ∷ ls) ms st mid end one two = goes_on st end l (ls ++ ms) one.lines.0 (goes_then ls ms (after st l.0 l.1) mid end (record { lines = one.lines.1; ends = one.ends }) two)

-- ---- what was said, from the groups on

abbrev not_later : Word → Bool
not_later w = false

abbrev grouped : List Word → State
grouped gs = record start { phase = Groups; version = 1; nodes = 2; ids = 4; groups = gs; later = map not_later gs }

abbrev names : List Word
names = codes "c0" ∷ codes "c1" ∷ codes "c2" ∷ []

-- in the phase of the caches or of the workers, behind the caches
abbrev worked : Phase → List Word → ℕ → ℕ → State
worked p gs workers commands = record { phase = p; version = 1; nodes = 2; ids = 4; groups = gs; later = map not_later gs; caches = names; pools = []; on = 3; workers = workers; commands = commands }

abbrev paths : ℕ → List Word
paths n = root_path ∷ map worker_path (range_with_len 0 n)

-- ---- groups

below_limit : (n limit : ℕ) → n < limit → nat_le limit n ≡ false
below_limit n limit low = grind (arith, nat_tests)

root_first : (gs : List Word) → place_of root_path (root_path ∷ gs) ≡ Some 0
unfolding place_of
root_first gs = refl

path_absent : (w : ℕ) → w < 63 → place_of (worker_path w) (paths w) ≡ None
unfolding place_of
path_absent w low = let none = absent w 0 w (omega arith) (omega (arith, low)) in rw none refl

group_may : (w : ℕ) → w < 63 → IsLine (grouped (paths w)) (group_line (group_at w))
unfolding group_rule passes
group_may w low = let fits = path_fit w low in let long = length-map-range_with_len worker_path 0 w in record {
  stands = refl;
  words = (fits.is, (tt, tt));
  rule = let parent = fits.parent in let first = root_first (map worker_path (range_with_len 0 w)) in let none = path_absent w low in
      let few : nat_le 64 (length (paths w)) ≡ false = below_limit (length (paths w)) 64 (omega (arith, long, low)) in rw (parent, first, none, few) refl;
}

groups_go : (w n : ℕ) → w + n ≤ 63 → Goes (grouped (paths w)) (grouped (paths (w + n))) (map group_line (map group_at (range_with_len w n)))
groups_go w zero most = subst (λ (k : ℕ). Goes (grouped (paths w)) (grouped (paths k)) []) (let e : w ≡ w + 0 = omega arith in e) (goes_none (grouped (paths w)))
groups_go w (suc n) most = let more = map-range_with_len_more worker_path 0 w w (omega arith) in let all : w + 1 + n ≡ w + suc n = omega arith in
    goes_on (grouped (paths w)) (grouped (paths (w + suc n))) (group_line (group_at w)) (map group_line (map group_at (range_with_len (w + 1) n))) (group_may w (omega (arith, most)))
    (subst (λ (bs : List Bool). Goes (record (grouped (paths w ++ worker_path w ∷ [])) { later = false ∷ bs }) (grouped (paths (w + suc n))) (map group_line (map group_at (range_with_len (w + 1) n)))) (map_push not_later (map worker_path (range_with_len 0 w)) (worker_path w))
    (subst (λ (gs : List Word). Goes (grouped (root_path ∷ gs)) (grouped (paths (w + suc n))) (map group_line (map group_at (range_with_len (w + 1) n)))) more
    (subst (λ (k : ℕ). Goes (grouped (paths (w + 1))) (grouped (paths k)) (map group_line (map group_at (range_with_len (w + 1) n)))) all (groups_go (w + 1) n (omega (arith, most))))))

-- ---- caches

caches_go : (gs : List Word) → Goes (grouped gs) (worked Caches gs 0 0) (map cache_line three_caches)
unfolding AreLines state_after_lines cache_rule passes place_of
caches_go gs = record {
  lines = (
    record { stands = refl; words = (refl, (refl, ((omega arith, omega arith, omega arith), ((omega arith, omega arith, omega arith), ((omega arith, omega arith, omega arith), (refl, (refl, tt))))))); rule = refl },
    (
      record { stands = refl; words = (refl, (refl, ((omega arith, omega arith, omega arith), ((omega arith, omega arith, omega arith), ((omega arith, omega arith, omega arith), (refl, (refl, tt))))))); rule = refl },
      (record { stands = refl; words = (refl, (refl, ((omega arith, omega arith, omega arith), ((omega arith, omega arith, omega arith), ((omega arith, omega arith, omega arith), (refl, (refl, tt))))))); rule = refl }, tt),
    ),
  );
  ends = refl;
}

-- ---- commands

-- a command may stand among the workers with these groups, while there are fewer than 20,000
abbrev Good : List Word → Command → Type 0
Good gs c = (workers commands : ℕ) → commands < 20000 → IsLine (worked Workers gs workers commands) (command_line c)

room_for : (commands : ℕ) → commands < 20000 → refused_if (nat_le 20000 commands) codes_of.TooMany ≡ Ok tt
room_for commands few = let e = below_limit commands 20000 few in rw e refl

-- one of the groups is named by its number
path_place : (w n : ℕ) → w < n → n ≤ 63 → place_of (worker_path w) (paths n) ≡ Some (worker_group w)
unfolding place_of
path_place w n low few =
    let here : 0 + w ≡ w = omega arith in
    let place : place_of (worker_path w) (map worker_path (range_with_len 0 n)) ≡ Some w = ap (λ (x : ℕ). place_of (worker_path x) (map worker_path (range_with_len 0 n))) (sym here) ∙ place_in_paths w 0 n low (omega (arith, few)) in
    rw place refl

path_at : (w n : ℕ) → w < n → get_or (paths n) (worker_group w) [] ≡ worker_path w
path_at w n low = let next : worker_group w ≡ suc w = omega arith in
    ap (λ (k : ℕ). get_or (paths n) k []) next ∙ get_or-map-range_with_len worker_path 0 n w w [] low (omega arith)

group_is : (w n : ℕ) → w < n → n ≤ 63 → IsOfClass (Listed PathTest codes_of.UnknownGroup (paths n)) (N (worker_group w))
unfolding passes
group_is w n low few = let at = path_at w n low in
    (ap (λ (p : Word). passes PathTest p) at ∙ (path_fit w (omega (arith, low, few))).is, ap (λ (p : Word). place_of p (paths n)) at ∙ path_place w n low few)

-- one of the caches by its number
cache_is : (c : ℕ) → c < 3 → IsOfClass (Listed NameTest codes_of.UnknownCache names) (N c)
unfolding place_of passes
cache_is zero low = (refl, refl)
cache_is (suc zero) low = (refl, refl)
cache_is (suc (suc zero)) low = (refl, refl)
cache_is (suc (suc (suc c))) low = absurd (omega (arith, low))

number_is : (high n : ℕ) → n < high → high ≤ 20001 → IsOfClass (Number 0 high) (N n)
number_is high n low few = (omega arith, low, omega (arith, low, few))

fs_walk : IsOfClass (Chosen Walks) (N 0)
unfolding place_of
fs_walk = refl

module _ (n w j r : ℕ) (low : w < n) (few : n ≤ 63) (small : j < 20000) where
  put_good : Good (paths n) (Put (target_by w r) (key_text j) (value_text j))
  put_good workers commands room = record {
    stands = refl;
    words = (group_is w n low few, (number_is 2 (node_by r) (omega arith) (omega arith), (cache_is (cache_by r) (omega arith), (is_key_of j (omega (arith, small)), (is_value_of j (omega (arith, small)), tt)))));
    rule = room_for commands room;
  }

  get_good : Good (paths n) (On (target_by w r) (key_text (j - 1)) Get)
  get_good workers commands room = record {
    stands = refl;
    words = (group_is w n low few, (number_is 2 (node_by r) (omega arith) (omega arith), (cache_is (cache_by r) (omega arith), (is_key_of (j - 1) (omega (arith, small)), tt))));
    rule = room_for commands room;
  }

  shrink_good : Good (paths n) (Shrink (worker_group w) (node_by r) (priority_by r) false)
  shrink_good workers commands room = record {
    stands = refl;
    words = (group_is w n low few, (number_is 2 (node_by r) (omega arith) (omega arith), (number_is 13 (priority_by r) (omega arith) (omega arith), (fs_walk, tt))));
    rule = room_for commands room;
  }

  balance_good : Good (paths n) (Balance (node_by r) (priority_by r) false)
  balance_good workers commands room = record {
    stands = refl;
    words = (number_is 2 (node_by r) (omega arith) (omega arith), (number_is 13 (priority_by r) (omega arith) (omega arith), (fs_walk, tt)));
    rule = room_for commands room;
  }

  offline_good : Good (paths n) (Offline (worker_group w))
  offline_good workers commands room = record {
    stands = refl;
    words = (group_is w n low few, tt);
    rule = room_for commands room;
  }

  chosen_good : (b : Bool) (c d : Command) → Good (paths n) c → Good (paths n) d → Good (paths n) (cond b c d)
  chosen_good true c d one other = one
  chosen_good false c d one other = other

  command_good : (commands : ℕ) → Good (paths n) (generated_command w commands j r)
  command_good commands = chosen_good (is_offline w commands j) _ _ offline_good
      (chosen_good (nat_lt (j % 8) 5) _ _ put_good
      (chosen_good (j % 8 == 5) _ _ get_good
      (chosen_good (j % 8 == 6) _ _ shrink_good balance_good)))

-- after a command there is one more
after_command : (gs : List Word) (workers done end : ℕ) (c : Command) (ls : List Line) → Goes (worked Workers gs workers (done + 1)) (worked Workers gs workers end) ls
    → Goes (after (worked Workers gs workers done) (command_line c).0 (command_line c).1) (worked Workers gs workers end) ls
after_command gs workers done end (Put at k v) ls h = h
after_command gs workers done end (On at k act) ls h = h
after_command gs workers done end (Shrink g n p o) ls h = h
after_command gs workers done end (Balance n p o) ls h = h
after_command gs workers done end (Offline g) ls h = h
after_command gs workers done end (MkGroup g) ls h = h
after_command gs workers done end (Register d) ls h = h
after_command gs workers done end (Unregister d) ls h = h
after_command gs workers done end (Isolate at b) ls h = h
after_command gs workers done end (Release n p u) ls h = h
after_command gs workers done end (Grab n p) ls h = h

-- the commands of a worker, from number i on
commands_go : (gs : List Word) (workers i n done : ℕ) (f : ℕ → Command) → done + n ≤ 20000 → ((j : ℕ) → j < i + n → Good gs (f j)) → Goes (worked Workers gs workers done) (worked Workers gs workers (done + n)) (map command_line (map f (range_with_len i n)))
commands_go gs workers i zero done f few good = subst (λ (k : ℕ). Goes (worked Workers gs workers done) (worked Workers gs workers k) []) (let e : done ≡ done + 0 = omega arith in e) (goes_none (worked Workers gs workers done))
commands_go gs workers i (suc n) done f few good = let all : done + 1 + n ≡ done + suc n = omega arith in
    goes_on (worked Workers gs workers done) (worked Workers gs workers (done + suc n)) (command_line (f i)) (map command_line (map f (range_with_len (i + 1) n))) (good i (omega arith) workers done (omega (arith, few)))
    (after_command gs workers done (done + suc n) (f i) (map command_line (map f (range_with_len (i + 1) n)))
    (subst (λ (k : ℕ). Goes (worked Workers gs workers (done + 1)) (worked Workers gs workers k) (map command_line (map f (range_with_len (i + 1) n)))) all (commands_go gs workers (i + 1) n (done + 1) f (omega (arith, few)) (λ j low. good j (omega (arith, low))))))

-- ---- workers

few_workers : (workers : ℕ) → workers < 64 → refused_if (nat_le 64 workers) codes_of.TooMany ≡ Ok tt
few_workers workers few = let e = below_limit workers 64 few in rw e refl

suc_times : (k m : ℕ) → suc k * m ≡ m + k * m
suc_times k m = grind arith

module _ (n commands : ℕ) (few : n ≤ 63) (all : n * commands ≤ 20000) where
  -- one worker
  worker_goes : (p : Phase) (workers done x w : ℕ) → allowed 1 p (Some kind.Worker) ≡ Ok kind.Worker → workers < 64 → w < n → done + commands ≤ 20000
      → Goes (worked p (paths n) workers done) (worked Workers (paths n) (workers + 1) (done + commands)) (worker_command_lines (commands_from x w commands))
  worker_goes p workers done x w may few' low room =
      goes_on (worked p (paths n) workers done) (worked Workers (paths n) (workers + 1) (done + commands)) worker_line (map command_line (commands_from x w commands))
      (record { stands = may; words = tt; rule = few_workers workers few' })
      (commands_go (paths n) (workers + 1) 0 commands done (λ j. generated_command w commands j (chosen_by (drawn_after x (j + 1)))) room
      (λ j below. command_good n w j (chosen_by (drawn_after x (j + 1))) low few (omega (arith, below, room)) commands))

  -- the workers from number w on, behind the first
  workers_go : (seed w k done : ℕ) → w + k ≤ n → done + k * commands ≤ 20000
      → Goes (worked Workers (paths n) w done) (worked Workers (paths n) (w + k) (done + k * commands)) (flat_map worker_command_lines (map (λ v. commands_from (drawn_after seed (v * commands)) v commands) (range_with_len w k)))
  workers_go seed w zero done most room = let e : w ≡ w + 0 = omega arith in let d : done ≡ done + 0 * commands = omega arith in
      subst (λ (v : ℕ). Goes (worked Workers (paths n) w done) (worked Workers (paths n) v (done + 0 * commands)) []) e
      (subst (λ (v : ℕ). Goes (worked Workers (paths n) w done) (worked Workers (paths n) w v) []) d (goes_none (worked Workers (paths n) w done)))
  workers_go seed w (suc k) done most room = let e : w + 1 + k ≡ w + suc k = omega arith in let step : suc k * commands ≡ commands + k * commands = suc_times k commands in let d : done + commands + k * commands ≡ done + suc k * commands = omega (arith, step) in
      goes_then (worker_command_lines (commands_from (drawn_after seed (w * commands)) w commands)) (flat_map worker_command_lines (map (λ v. commands_from (drawn_after seed (v * commands)) v commands) (range_with_len (w + 1) k)))
      (worked Workers (paths n) w done) (worked Workers (paths n) (w + 1) (done + commands)) (worked Workers (paths n) (w + suc k) (done + suc k * commands))
      (worker_goes Workers w done (drawn_after seed (w * commands)) w refl (omega (arith, most, few)) (omega (arith, most)) (omega (arith, room, step)))
      (subst (λ (v : ℕ). Goes (worked Workers (paths n) (w + 1) (done + commands)) (worked Workers (paths n) v (done + suc k * commands)) (flat_map worker_command_lines (map (λ v. commands_from (drawn_after seed (v * commands)) v commands) (range_with_len (w + 1) k)))) e
      (subst (λ (v : ℕ). Goes (worked Workers (paths n) (w + 1) (done + commands)) (worked Workers (paths n) (w + 1 + k) v) (flat_map worker_command_lines (map (λ v. commands_from (drawn_after seed (v * commands)) v commands) (range_with_len (w + 1) k)))) d
      (workers_go seed (w + 1) k (done + commands) (omega (arith, most)) (omega (arith, room, step)))))

abbrev all_workers : ℕ → ℕ → ℕ → List (List Command)
all_workers seed n commands = map (λ w. commands_from (drawn_after seed (w * commands)) w commands) (range_with_len 0 n)

-- all workers, of whom there is at least one
some_workers_go : (seed n commands : ℕ) → 1 ≤ n → n ≤ 63 → n * commands ≤ 20000 → Goes (worked Caches (paths n) 0 0) (worked Workers (paths n) n (n * commands)) (flat_map worker_command_lines (all_workers seed n commands))
some_workers_go seed zero commands some few all = absurd (omega (arith, some))
some_workers_go seed (suc m) commands some few all =
    let step : suc m * commands ≡ commands + m * commands = suc_times m commands in
    let first : 0 + commands ≡ commands = omega arith in let e : 1 + m ≡ suc m = omega arith in let d : 0 + commands + m * commands ≡ suc m * commands = omega (arith, step) in
    goes_then (worker_command_lines (commands_from (drawn_after seed (0 * commands)) 0 commands)) (flat_map worker_command_lines (map (λ v. commands_from (drawn_after seed (v * commands)) v commands) (range_with_len 1 m)))
    (worked Caches (paths (suc m)) 0 0) (worked Workers (paths (suc m)) 1 (0 + commands)) (worked Workers (paths (suc m)) (suc m) (suc m * commands))
    (worker_goes (suc m) commands few all Caches 0 0 (drawn_after seed (0 * commands)) 0 refl (omega arith) (omega arith) (omega (arith, all, step)))
    (subst (λ (v : ℕ). Goes (worked Workers (paths (suc m)) 1 (0 + commands)) (worked Workers (paths (suc m)) v (suc m * commands)) (flat_map worker_command_lines (map (λ v. commands_from (drawn_after seed (v * commands)) v commands) (range_with_len 1 m)))) e
    (subst (λ (v : ℕ). Goes (worked Workers (paths (suc m)) 1 (0 + commands)) (worked Workers (paths (suc m)) (1 + m) v) (flat_map worker_command_lines (map (λ v. commands_from (drawn_after seed (v * commands)) v commands) (range_with_len 1 m)))) d
    (workers_go (suc m) commands few all seed 1 m (0 + commands) (omega arith) (omega (arith, all, step)))))

header_may : IsLine start (header_line 1)
header_may = record { stands = refl; words = ((omega arith, omega arith, omega arith), tt); rule = refl }

size_may : IsLine (after start (header_line 1).0 (header_line 1).1) (size_line 2 4)
size_may = record { stands = refl; words = ((omega arith, omega arith, omega arith), ((omega arith, omega arith, omega arith), tt)); rule = refl }

end_goes : (gs : List Word) (workers commands : ℕ) → Goes (worked Workers gs workers commands) (worked Done gs workers commands) (end_line ∷ [])
end_goes gs workers commands = goes_on (worked Workers gs workers commands) (worked Done gs workers commands) end_line [] (record { stands = refl; words = tt; rule = refl }) (goes_none (worked Done gs workers commands))

all_go : (seed n commands : ℕ) → MayBeGenerated n commands → Goes start (worked Done (paths n) n (n * commands)) (lines_of (generated seed n commands))
all_go seed n commands may =
    let groups = map group_line (map group_at (range_with_len 0 n)) in let caches = map cache_line three_caches in let workers = flat_map worker_command_lines (all_workers seed n commands) in
    let end : State = worked Done (paths n) n (n * commands) in let e : 0 + n ≡ n = omega arith in let most = may.most_workers in
    goes_on start end (header_line 1) (size_line 2 4 ∷ ((groups ++ caches) ++ (workers ++ end_line ∷ []))) header_may
    (goes_on (after start (header_line 1).0 (header_line 1).1) end (size_line 2 4) ((groups ++ caches) ++ (workers ++ end_line ∷ [])) size_may
    (goes_then (groups ++ caches) (workers ++ end_line ∷ []) (grouped (paths 0)) (worked Caches (paths n) 0 0) end
    (goes_then groups caches (grouped (paths 0)) (grouped (paths n)) (worked Caches (paths n) 0 0) (subst (λ (k : ℕ). Goes (grouped (paths 0)) (grouped (paths k)) groups) e (groups_go 0 n (omega (arith, most)))) (caches_go (paths n)))
    (goes_then workers (end_line ∷ []) (worked Caches (paths n) 0 0) (worked Workers (paths n) n (n * commands)) end (some_workers_go seed n commands may.some_workers most may.most_commands) (end_goes (paths n) n (n * commands)))))

-- each group's parent is the root
parents_are : (gs : List Word) (w n : ℕ) → w + n ≤ 63 → HaveParentsBefore (root_path ∷ gs) (map group_at (range_with_len w n))
parents_are gs w zero most = tt
parents_are gs w (suc n) most = let parent = (path_fit w (omega (arith, most))).parent in
    (sym (ap (λ (p : Word). or_root (place_of p (root_path ∷ gs))) parent ∙ ap or_root (root_first gs)), parents_are (gs ++ worker_path w ∷ []) (w + 1) n (omega (arith, most)))

-- a generated script is valid
pub generated_valid : (seed workers commands : ℕ) → MayBeGenerated workers commands → IsValid (generated seed workers commands)
generated_valid seed workers commands may = let go = all_go seed workers commands may in let most = may.most_workers in record {
  lines = record { lines = go.lines; ended = ap (λ (st : State). is_end_read st.phase) go.ends };
  parents = parents_are [] 0 workers (omega (arith, most));
}

-- what was made part by part
pub valid_made : (seed n m : ℕ) → MayBeGenerated n m → (gs : List GroupDecl) (cs : List CacheDecl) (ws : List (List Command)) → gs ≡ map group_at (range_with_len 0 n) → cs ≡ three_caches → ws ≡ all_workers seed n m
    → IsValid (record { version = 1; nodes = 2; ids = 4; groups = gs; caches = cs; pools = []; workers = ws; sweep = None })
valid_made seed n m may gs cs ws groups caches workers = subst IsValid (λ i. record { version = 1; nodes = 2; ids = 4; groups = sym groups i; caches = sym caches i; pools = []; workers = sym workers i; sweep = None }) (generated_valid seed n m may)
