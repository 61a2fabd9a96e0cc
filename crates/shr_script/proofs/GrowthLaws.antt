-- SPDX-License-Identifier: GPL-2.0-only
-- A script has few lines, since each counts towards a limit.
use Rattle.shr_script.proofs.Common.{◌≡◌, ℕ, ◌+◌, ◌≤◌, ◌<◌, Bool, true, false, cond, List, [], ◌∷◌, ◌++◌, length, Option, Some, None, Result, Ok, refl, sym, ap, subst, ◌∙◌, arith, nat_le, nat_lt, not, bytes_eq, ◌&&◌, ◌==◌, length_push, root_path, parent_path, Code, ◌>>=◌, Word, Item, word_said, number_said, first, seventh, place_of, bind_ok, Kind, Header, Size, Group, Cache, Pool, Worker, Work, Sweep, End, Phase, Start, Sizes, Groups, Caches, Pools, Workers, Swept, Done, State, start, Line, misplaced, unless, own, after, has, may_hold_group, refused_if, most_groups, IsLine, IsScript, is_end_read, Drafted, added, part_step, ◌^◌}
use Rattle.shr_base.specs.declared.scripts.Code.TheVariants as codes_of
use Rattle.shr_script.specs.Lines.{group_rule, cache_rule, pool_rule}
use Rattle.shr_script.specs.Script.{state_after_lines, AreLines}
use Rattle.shr_script.specs.Faults.{verdict}
use Rattle.shr_script.proofs.LineLaws.{may_stand}
use Rattle.shr_script.proofs.ScriptLaws.{not_last, next_at}
use Rattle.shr_script.proofs.RunLaws.{part_is, told}
use Rattle.shr_model.proofs.Booleans.{above_of}

-- what was said is within the limits
pub record Few (st : State) : Type 0 where
  pub groups : length st.groups ≤ 256
  pub caches : length st.caches ≤ 250
  pub pools : length st.pools ≤ 64
  pub workers : st.workers ≤ 64
  pub commands : st.commands ≤ 20000

-- how many of the header, the size, the sweep and the end a phase may have behind it
abbrev pub phase_lines : Phase → ℕ
phase_lines Start = 0
phase_lines Sizes = 1
phase_lines Groups = 2
phase_lines Caches = 2
phase_lines Pools = 2
phase_lines Workers = 2
phase_lines Swept = 3
phase_lines Done = 4

-- more than the lines so far, since the root is among the groups
abbrev pub said_lines : State → ℕ
said_lines st = phase_lines st.phase + (length st.groups + (length st.caches + (length st.pools + (st.workers + st.commands))))

-- a line more was said, and what was said is within the limits still
pub record Grown (st after' : State) : Type 0 where
  pub few : Few after'
  pub more : said_lines st < said_lines after'

pub not_refused : (b : Bool) (c : Code) → refused_if b c ≡ Ok tt → b ≡ false
not_refused true c e = absurd cc
not_refused false c e = refl

within : (two : Bool) → (64 ≤ cond two 256 64) × (cond two 256 64 ≤ 256)
within true = (omega arith, omega arith)
within false = (omega arith, omega arith)

-- each version allows from 64 to 256 groups
pub most_within : (version : ℕ) → (64 ≤ most_groups version) × (most_groups version ≤ 256)
most_within version = within (version == 2)

pub group_room : (st : State) (late : Bool) (path : Word) → group_rule st late path ≡ Ok tt → length st.groups < most_groups st.version
unfolding group_rule
group_room st late path e =
    let a = bind_ok (refused_if (not (bytes_eq path root_path) && not (may_hold_group st.later late (place_of (parent_path path) st.groups))) codes_of.NoParent) (λ _. refused_if (has st.groups path) codes_of.Exists >>= λ _. refused_if (nat_le (most_groups st.version) (length st.groups)) codes_of.TooMany) tt e in
    let b = bind_ok (refused_if (has st.groups path) codes_of.Exists) (λ _. refused_if (nat_le (most_groups st.version) (length st.groups)) codes_of.TooMany) tt a.2 in
    above_of (most_groups st.version) (length st.groups) (not_refused (nat_le (most_groups st.version) (length st.groups)) codes_of.TooMany b.2)

cache_room : (st : State) (name : Word) (on : ℕ) → cache_rule st name on ≡ Ok tt → length st.caches < 250
unfolding cache_rule
cache_room st name on e =
    let a = bind_ok (refused_if (has st.caches name) codes_of.Exists) (λ _. refused_if (nat_le 250 (length st.caches)) codes_of.TooMany >>= λ _. refused_if (nat_lt st.ids (st.on + on)) codes_of.TooMany) tt e in
    let b = bind_ok (refused_if (nat_le 250 (length st.caches)) codes_of.TooMany) (λ _. refused_if (nat_lt st.ids (st.on + on)) codes_of.TooMany) tt a.2 in
    above_of 250 (length st.caches) (not_refused (nat_le 250 (length st.caches)) codes_of.TooMany b.1)

pool_room : (st : State) (name : Word) → pool_rule st name ≡ Ok tt → length st.pools < 64
unfolding pool_rule
pool_room st name e =
    let a = bind_ok (refused_if (has st.pools name) codes_of.Exists) (λ _. refused_if (nat_le 64 (length st.pools)) codes_of.TooMany) tt e in
    above_of 64 (length st.pools) (not_refused (nat_le 64 (length st.pools)) codes_of.TooMany a.2)

-- the same in this phase
abbrev at : Phase → State → State
at p st = record st { phase = p }

one_command : (p : Phase) (st : State) → refused_if (nat_le 20000 st.commands) codes_of.TooMany ≡ Ok tt → Few (at p st) → Grown (at p st) (record (at p st) { commands = st.commands + 1 })
one_command p st e f =
    let lt = above_of 20000 st.commands (not_refused (nat_le 20000 st.commands) codes_of.TooMany e) in
    record { few = record { groups = f.groups; caches = f.caches; pools = f.pools; workers = f.workers; commands = omega (arith, lt) }; more = omega arith }

one_worker : (p : Phase) (st : State) → phase_lines p ≡ 2 → refused_if (nat_le 64 st.workers) codes_of.TooMany ≡ Ok tt → Few (at p st) → Grown (at p st) (record (at Workers st) { workers = st.workers + 1 })
one_worker p st two e f =
    let lt = above_of 64 st.workers (not_refused (nat_le 64 st.workers) codes_of.TooMany e) in
    record { few = record { groups = f.groups; caches = f.caches; pools = f.pools; workers = omega (arith, lt); commands = f.commands }; more = omega (arith, two) }

one_cache : (p : Phase) (st : State) (name : Word) (o : ℕ) → phase_lines p ≡ 2 → cache_rule (at p st) name o ≡ Ok tt → Few (at p st) → Grown (at p st) (record (at Caches st) { caches = st.caches ++ name ∷ []; on = st.on + o })
one_cache p st name o two e f =
    let lt = cache_room (at p st) name o e in
    let long = length_push st.caches name in
    record { few = record { groups = f.groups; caches = omega (arith, lt, long); pools = f.pools; workers = f.workers; commands = f.commands }; more = omega (arith, two, long) }

one_pool : (p : Phase) (st : State) (name : Word) → phase_lines p ≡ 2 → pool_rule (at p st) name ≡ Ok tt → Few (at p st) → Grown (at p st) (record (at Pools st) { pools = st.pools ++ name ∷ [] })
one_pool p st name two e f =
    let lt = pool_room (at p st) name e in
    let long = length_push st.pools name in
    record { few = record { groups = f.groups; caches = f.caches; pools = omega (arith, lt, long); workers = f.workers; commands = f.commands }; more = omega (arith, two, long) }

-- the same with nothing more said than the phase
one_phase : (p q : Phase) (st : State) → phase_lines p < phase_lines q → Few (at p st) → Grown (at p st) (at q st)
one_phase p q st lt f =
    record { few = record { groups = f.groups; caches = f.caches; pools = f.pools; workers = f.workers; commands = f.commands }; more = omega (arith, lt) }

grow : (p : Phase) (k : Kind) (st : State) (xs : List Item) → unless (misplaced p k) k ≡ Ok k → own (at p st) k xs ≡ Ok tt → Few (at p st) → Grown (at p st) (after (at p st) k xs)
grow Start Header st xs e o f = record { few = record { groups = f.groups; caches = f.caches; pools = f.pools; workers = f.workers; commands = f.commands }; more = omega arith }
grow Start k st xs e o f = absurd cc
grow Sizes Size st xs e o f = record { few = record { groups = f.groups; caches = f.caches; pools = f.pools; workers = f.workers; commands = f.commands }; more = omega arith }
grow Sizes k st xs e o f = absurd cc
grow Groups (Group late) st xs e o f =
    let lt = group_room (at Groups st) late (word_said (first xs)) o in
    let most = (most_within st.version).1 in
    let long = length_push st.groups (word_said (first xs)) in
    record { few = record { groups = omega (arith, lt, long, most); caches = f.caches; pools = f.pools; workers = f.workers; commands = f.commands }; more = omega (arith, long) }
grow Groups Cache st xs e o f = one_cache Groups st (word_said (first xs)) (number_said (seventh xs)) refl o f
grow Groups Pool st xs e o f = one_pool Groups st (word_said (first xs)) refl o f
grow Groups Worker st xs e o f = one_worker Groups st refl o f
grow Groups End st xs e o f = one_phase Groups Done st (omega arith) f
grow Groups k st xs e o f = absurd cc
grow Caches Cache st xs e o f = one_cache Caches st (word_said (first xs)) (number_said (seventh xs)) refl o f
grow Caches Pool st xs e o f = one_pool Caches st (word_said (first xs)) refl o f
grow Caches Worker st xs e o f = one_worker Caches st refl o f
grow Caches End st xs e o f = one_phase Caches Done st (omega arith) f
grow Caches k st xs e o f = absurd cc
grow Pools Pool st xs e o f = one_pool Pools st (word_said (first xs)) refl o f
grow Pools Worker st xs e o f = one_worker Pools st refl o f
grow Pools End st xs e o f = one_phase Pools Done st (omega arith) f
grow Pools k st xs e o f = absurd cc
grow Workers Worker st xs e o f = one_worker Workers st refl o f
grow Workers Sweep st xs e o f = one_phase Workers Swept st (omega arith) f
grow Workers End st xs e o f = one_phase Workers Done st (omega arith) f
grow Workers (Work verb) st xs e o f = one_command Workers st o f
grow Workers k st xs e o f = absurd cc
grow Swept End st xs e o f = one_phase Swept Done st (omega arith) f
grow Swept k st xs e o f = absurd cc
grow Done k st xs e o f = absurd cc

-- a line that may stand raises the count of lines by one, and keeps the limits
pub grows : (st : State) (l : Line) → IsLine st l → Few st → Grown st (after st l.0 l.1)
grows st l h f = grow st.phase l.0 st l.1 (may_stand st.version st.phase l.0 l.0 h.stands) h.rule f

pub few_start : Few start
few_start = record { groups = omega arith; caches = omega arith; pools = omega arith; workers = omega arith; commands = omega arith }

-- so many lines more were said, and what was said is within the limits still
pub record Counted (st after' : State) (n : ℕ) : Type 0 where
  pub few : Few after'
  pub count : n + said_lines st ≤ said_lines after'

-- lines that may stand raise the count by their number
pub count_lines : (ls : List Line) (st : State) → AreLines st ls → Few st → Counted st (state_after_lines st ls) (length ls)
unfolding state_after_lines AreLines
count_lines [] st h f = record { few = f; count = omega arith }
count_lines (l ∷ ls) st h f =
    let g = grows st l h.0 f in
    let m = count_lines ls (after st l.0 l.1) h.1 g.few in
    let more = g.more in
    let count = m.count in
    record { few = m.few; count = omega (arith, more, count) }

at_most_four : (p : Phase) → phase_lines p ≤ 4
at_most_four Start = omega arith
at_most_four Sizes = omega arith
at_most_four Groups = omega arith
at_most_four Caches = omega arith
at_most_four Pools = omega arith
at_most_four Workers = omega arith
at_most_four Swept = omega arith
at_most_four Done = omega arith

-- what was said within the limits is of at most 20,638 lines, the root counted as one
pub few_lines : (st : State) → Few st → said_lines st ≤ 20638
few_lines st f =
    let a = at_most_four st.phase in
    let b = f.groups in
    let c = f.caches in
    let p = f.pools in
    let d = f.workers in
    let e = f.commands in
    omega (arith, a, b, c, p, d, e)

-- a script has at most 20,637 lines
pub short_script : (ls : List Line) → IsScript ls → length ls < 2 ^ 32
short_script ls h =
    let c = count_lines ls start h.lines few_start in
    let count = c.count in
    let few = few_lines (state_after_lines start ls) c.few in
    omega (arith, count, few)

-- ---- a part that is read

abbrev gone_on : Bool → State × Drafted → Result (Bool × (State × Drafted)) Code
gone_on b x = Ok (b, x)

gone_is : (b c : Bool) (x y : State × Drafted) → gone_on b x ≡ gone_on c y → (b ≡ c) × (x ≡ y)
gone_is b c x y e = let p : gone_pair b x ≡ gone_pair c y = cc in (ap (λ (z : Bool × (State × Drafted)). z.0) p, ap (λ (z : Bool × (State × Drafted)). z.1) p)
  where
    gone_pair : Bool → State × Drafted → Bool × (State × Drafted)
    gone_pair b x = (b, x)

line_told : (st : State) (d : Drafted) (part : Word) (last : Bool) (v : Option Line) (x : State × Drafted) → verdict st part last ≡ Ok v → told st d v ≡ Ok (false, x) → Few st → Grown st x.0
unfolding verdict
line_told st d part last None x e t f = let z = gone_is true false (st, d) x t in absurd (true_false z.0)
  where
    true_false : true ≡ false → ⊥
    true_false e = cc
line_told st d part true (Some l) x e t f = absurd (not_last (is_end_read st.phase) st part l e)
line_told st d part false (Some l) x e t f =
    let z = gone_is false false (after st l.0 l.1, added st d l.0 l.1) x t in
    let n = next_at (is_end_read st.phase) st part l e in
    subst (λ (y : State × Drafted). Grown st y.0) z.1 (grows st l n.line f)

-- a part that didn't end the script raises the count of lines by one
pub part_grows : (st : State) (d : Drafted) (part : Word) (last : Bool) (x : State × Drafted) → part_step st d part last ≡ Ok (false, x) → Few st → Grown st x.0
part_grows st d part last x e f =
    let a = bind_ok (verdict st part last) (told st d) (false, x) (sym (part_is st d part last) ∙ e) in
    line_told st d part last a.0 x a.1 a.2 f
