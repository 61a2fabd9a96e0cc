-- SPDX-License-Identifier: GPL-2.0-only
-- Marks of groups on nodes, walk by walk.
use Rattle.shr_audit_sweep.proofs.Common.{◌≡◌, ℕ, ◌+◌, ◌*◌, ◌<◌, ◌≤◌, Bool, true, false, cond, List, [], ◌∷◌, ◌++◌, length, get_or, take, Some, refl, sym, ap, subst, ◌∙◌, arith, ◌&&◌, ◌==◌, sum_by, Decides, length-set, Script, Sweep, WalkRecord, Report, parents_of, sweep_walks, EachItem, clash, AreMarked, IsGroupMarked, job_index, ◌-◌, set, drop, nat_lt, flat_map, append_assoc, drop_more, get_or-set_same, get_or-set_other, length-map, take-append-drop, take_all, take_more, IsSweepRight, all_sweep_walks, AreWalkedOnce, AreSweptOnce, IsSweptWithin, times_in}
use Rattle.std.specs.List.{range_with_len}
use Rattle.std.proofs.lemmas.Bool.{eq-eqb, eqb-true}
use Rattle.std.proofs.lemmas.Bool.Decides.{nat_tests}
use Rattle.std.proofs.lemmas.Grind.{flat_map-append}
use Rattle.std.proofs.lemmas.List.Sums.{sum_by-append, sum_by-cons}
use Rattle.std.proofs.lemmas.Nat.{mul-add-lt, same_from_place}
use Rattle.std.proofs.lemmas.Option.{slice_get-get_or}
use Rattle.shr_base.specs.declared.scripts.GroupDecl.{GroupDecl}
use Rattle.shr_audit_sweep.specs.Swept.{HaveSweepAnswers, AreSweptOut}
use Rattle.shr_model.proofs.PiecesLaws.{and_true}
use Rattle.shr_model.proofs.Numbers.{range_more}

abbrev is_of : ℕ → ℕ → WalkRecord → Bool
is_of group node w = (w.group == group) && (w.node == node)

abbrev one_of : ℕ → ℕ → WalkRecord → ℕ
one_of group node w = cond (is_of group node w) 1 0

-- ---- how many walks are of a group on a node

times_append : (xs ys : List WalkRecord) (group node : ℕ) → times_in (xs ++ ys) group node ≡ times_in xs group node + times_in ys group node
times_append xs ys group node = sum_by-append (one_of group node) xs ys

times_cons : (w : WalkRecord) (ws : List WalkRecord) (group node : ℕ) → times_in (w ∷ ws) group node ≡ one_of group node w + times_in ws group node
times_cons w ws group node = sum_by-cons (one_of group node) w ws

times_one : (ws : List WalkRecord) (w : WalkRecord) (group node : ℕ) → times_in (ws ++ w ∷ []) group node ≡ times_in ws group node + one_of group node w
times_one ws w group node =
    let whole = times_append ws (w ∷ []) group node in
    let one = times_cons w [] group node in
    let none : times_in [] group node ≡ 0 = refl in
    omega (arith, whole, one, none)

one_itself : (w : WalkRecord) → one_of w.group w.node w ≡ 1
one_itself w = ap (λ (b : Bool). cond (b && (w.node == w.node)) 1 0) (eq-eqb w.group w.group refl) ∙ ap (λ (b : Bool). cond b 1 0) (eq-eqb w.node w.node refl)

positive : (n : ℕ) → 0 < n → nat_lt 0 n ≡ true
positive n lt = grind (arith, nat_tests)

of_positive : (n : ℕ) → nat_lt 0 n ≡ true → 0 < n
of_positive n e = grind (arith, nat_tests)

of_none : (n : ℕ) → nat_lt 0 n ≡ false → n ≡ 0
of_none n e = grind (arith, nat_tests)

-- ---- one walk more

pub in_marks : (groups nodes : ℕ) (w : WalkRecord) (n : ℕ) → n ≡ groups * nodes → IsSweptWithin groups nodes w → job_index nodes w.group w.node < n
in_marks groups nodes w n size within = let lt = mul-add-lt w.group nodes w.node groups within.0 within.1 in omega (arith, lt, size)

pub mark_more : (groups nodes : ℕ) (before : List WalkRecord) (w : WalkRecord) (marks : List Bool) → IsSweptWithin groups nodes w → AreMarked groups nodes before marks → get_or marks (job_index nodes w.group w.node) false ≡ false
    → AreMarked groups nodes (before ++ w ∷ []) (set marks (job_index nodes w.group w.node) true)
mark_more groups nodes before w marks within h fresh = record {
  size = length-set marks (job_index nodes w.group w.node) true ∙ h.size;
  each = λ group node g n. each group node g n (is_of group node w) refl;
  once = λ group node. once group node (is_of group node w) refl;
}
  where
    none : times_in before w.group w.node ≡ 0
    none = of_none (times_in before w.group w.node) (sym (h.each w.group w.node within.0 within.1) ∙ fresh)

    each : (group node : ℕ) → group < groups → node < nodes → (b : Bool) → is_of group node w ≡ b → get_or (set marks (job_index nodes w.group w.node) true) (job_index nodes group node) false ≡ nat_lt 0 (times_in (before ++ w ∷ []) group node)
    each group node g n true own =
        let t = and_true (w.group == group) (w.node == node) own in
        let same_group : w.group ≡ group = eqb-true w.group group t.0 in
        let same_node : w.node ≡ node = eqb-true w.node node t.1 in
        let one : one_of group node w ≡ 1 = ap (λ (b : Bool). cond b 1 0) own in
        let more = times_one before w group node in
        ap (λ (i : ℕ). get_or (set marks (job_index nodes w.group w.node) true) i false) (ap (λ (k : ℕ). job_index nodes k node) (sym same_group) ∙ ap (job_index nodes w.group) (sym same_node))
        ∙ (get_or-set_same marks (job_index nodes w.group w.node) true false (in_marks groups nodes w (length marks) h.size within)
        ∙ sym (positive (times_in (before ++ w ∷ []) group node) (omega (arith, more, one))))
    each group node g n false other =
        let one : one_of group node w ≡ 0 = ap (λ (b : Bool). cond b 1 0) other in
        let more = times_one before w group node in
        let same : times_in (before ++ w ∷ []) group node ≡ times_in before group node = omega (arith, more, one) in
        get_or-set_other marks (job_index nodes w.group w.node) (job_index nodes group node) true false (apart group node n other)
        ∙ (h.each group node g n ∙ ap (nat_lt 0) (sym same))
      where
        apart : (group node : ℕ) → node < nodes → is_of group node w ≡ false → job_index nodes group node ≡ job_index nodes w.group w.node → ⊥
        apart group node n off e =
            let s = same_from_place group node w.group w.node nodes n within.1 e in
            let own : is_of group node w ≡ true = ap (λ (b : Bool). b && (w.node == node)) (eq-eqb w.group group (sym s.0)) ∙ eq-eqb w.node node (sym s.1) in cc

    once : (group node : ℕ) (b : Bool) → is_of group node w ≡ b → times_in (before ++ w ∷ []) group node ≤ 1
    once group node true own =
        let t = and_true (w.group == group) (w.node == node) own in
        let same_group : w.group ≡ group = eqb-true w.group group t.0 in
        let same_node : w.node ≡ node = eqb-true w.node node t.1 in
        let one : one_of group node w ≡ 1 = ap (λ (b : Bool). cond b 1 0) own in
        let more = times_one before w group node in
        let zero_before : times_in before group node ≡ 0 = ap (λ (k : ℕ). times_in before k node) (sym same_group) ∙ (ap (times_in before w.group) (sym same_node) ∙ none) in
        omega (arith, more, one, zero_before)
    once group node false other =
        let one : one_of group node w ≡ 0 = ap (λ (b : Bool). cond b 1 0) other in
        let more = times_one before w group node in
        let up = h.once group node in
        omega (arith, more, one, up)

-- one that was marked already is walked twice
pub mark_twice : (groups nodes : ℕ) (before rest : List WalkRecord) (w : WalkRecord) (marks : List Bool) → IsSweptWithin groups nodes w → AreMarked groups nodes before marks → get_or marks (job_index nodes w.group w.node) false ≡ true
    → AreWalkedOnce (before ++ w ∷ rest) → ⊥
mark_twice groups nodes before rest w marks within h set_before once =
    let had = of_positive (times_in before w.group w.node) (sym (h.each w.group w.node within.0 within.1) ∙ set_before) in
    let whole = times_append before (w ∷ rest) w.group w.node in
    let more = times_cons w rest w.group w.node in
    let one = one_itself w in
    let most = once w.group w.node in
    omega (arith, had, whole, more, one, most)

-- ---- walks behind others

split : (walks : List WalkRecord) (i : ℕ) (d : WalkRecord) → i < length walks → walks ≡ take i walks ++ get_or walks i d ∷ drop (i + 1) walks
split walks i d lt = sym (take-append-drop i walks) ∙ ap (λ (ws : List WalkRecord). take i walks ++ ws) (drop_more walks i d lt)

not_fresh : (b v : Bool) → Decides b (v ≡ false) → b ≡ false → v ≡ true
not_fresh b true d f = refl
not_fresh b false d f = absurd (clash b (d.1 refl) f)

pub within_at : (groups nodes : ℕ) (walks : List WalkRecord) (i : ℕ) (w : WalkRecord) → EachItem (IsSweptWithin groups nodes) walks → i < length walks → w ≡ get_or walks i w → IsSweptWithin groups nodes w
within_at groups nodes walks i w all lt is = all i w (slice_get-get_or walks i w lt ∙ ap (λ (x : WalkRecord). Some x) (sym is))

pub walks_more : (groups nodes : ℕ) (before walks : List WalkRecord) (i : ℕ) (w : WalkRecord) (marks after : List Bool) (b : Bool) → IsSweptWithin groups nodes w → i < length walks → w ≡ get_or walks i w → Decides b (get_or marks (job_index nodes w.group w.node) false ≡ false) → b ≡ true
    → after ≡ set marks (job_index nodes w.group w.node) true → AreMarked groups nodes (before ++ take i walks) marks → AreMarked groups nodes (before ++ take (i + 1) walks) after
walks_more groups nodes before walks i w marks after b within lt is fresh t now h =
    let next : take (i + 1) walks ≡ take i walks ++ w ∷ [] = take_more walks i w lt ∙ ap (λ (x : WalkRecord). take i walks ++ x ∷ []) (sym is) in
    subst (λ (ws : List WalkRecord). AreMarked groups nodes ws after) (append_assoc before (take i walks) (w ∷ []) ∙ ap (λ (ws : List WalkRecord). before ++ ws) (sym next))
    (subst (AreMarked groups nodes ((before ++ take i walks) ++ w ∷ [])) (sym now) (mark_more groups nodes (before ++ take i walks) w marks within h (fresh.0 t)))

pub walks_twice : (groups nodes : ℕ) (before walks : List WalkRecord) (i : ℕ) (w : WalkRecord) (marks : List Bool) (b : Bool) → IsSweptWithin groups nodes w → i < length walks → w ≡ get_or walks i w → Decides b (get_or marks (job_index nodes w.group w.node) false ≡ false) → b ≡ false
    → AreMarked groups nodes (before ++ take i walks) marks → Decides false (AreWalkedOnce (before ++ walks))
walks_twice groups nodes before walks i w marks b within lt is fresh f h = (
  λ t. absurd cc,
  λ once. absurd (mark_twice groups nodes (before ++ take i walks) (drop (i + 1) walks) w marks within h (not_fresh b (get_or marks (job_index nodes w.group w.node) false) fresh f)
      (subst AreWalkedOnce (ap (λ (ws : List WalkRecord). before ++ ws) (split walks i w lt ∙ ap (λ (x : WalkRecord). take i walks ++ x ∷ drop (i + 1) walks) (sym is)) ∙ sym (append_assoc before (take i walks) (w ∷ drop (i + 1) walks))) once)),
)

pub walks_all : (groups nodes : ℕ) (before walks : List WalkRecord) (i : ℕ) (marks : List Bool) → length walks ≤ i → AreMarked groups nodes (before ++ take i walks) marks → AreMarked groups nodes (before ++ walks) marks
walks_all groups nodes before walks i marks over h = subst (λ (ws : List WalkRecord). AreMarked groups nodes (before ++ ws) marks) (take_all i walks over) h

-- ---- all workers

abbrev pub swept_to : Script → Report → ℕ → List WalkRecord
swept_to s r worker = flat_map (sweep_walks s r) (range_with_len 0 worker)

swept_on : (s : Script) (r : Report) (n m : ℕ) → swept_to s r (n + m) ≡ swept_to s r n ++ flat_map (sweep_walks s r) (range_with_len n m)
swept_on s r n m =
    ap (flat_map (sweep_walks s r)) (range_more 0 n m ∙ ap (λ (k : ℕ). range_with_len 0 n ++ range_with_len k m) (let e : 0 + n ≡ n = omega arith in e))
    ∙ flat_map-append (sweep_walks s r) (range_with_len 0 n) (range_with_len n m)

one_swept : (s : Script) (r : Report) (n : ℕ) → flat_map (sweep_walks s r) (range_with_len n 1) ≡ sweep_walks s r n
one_swept s r n = search_nil (sweep_walks s r n)
  where
    search_nil : (ws : List WalkRecord) → ws ++ [] ≡ ws
    search_nil [] = refl
    search_nil (w ∷ ws) = ap (λ (xs : List WalkRecord). w ∷ xs) (search_nil ws)

pub next_worker : (s : Script) (r : Report) (n : ℕ) → swept_to s r (n + 1) ≡ swept_to s r n ++ sweep_walks s r n
next_worker s r n = swept_on s r n 1 ∙ ap (λ (ws : List WalkRecord). swept_to s r n ++ ws) (one_swept s r n)

once_before : (xs ys : List WalkRecord) → AreWalkedOnce (xs ++ ys) → AreWalkedOnce xs
once_before xs ys once group node = let whole = times_append xs ys group node in let most = once group node in omega (arith, whole, most)

-- what isn't walked once by the first workers isn't by all
pub all_twice : (s : Script) (r : Report) (n : ℕ) (walks : List WalkRecord) → n < length s.workers.items → walks ≡ sweep_walks s r n → (AreWalkedOnce (swept_to s r n ++ walks) → ⊥) → AreWalkedOnce (all_sweep_walks s r) → ⊥
all_twice s r n walks lt own twice once =
    let whole : length s.workers.items ≡ n + 1 + (length s.workers.items - (n + 1)) = omega (arith, lt) in
    let split : all_sweep_walks s r ≡ swept_to s r (n + 1) ++ flat_map (sweep_walks s r) (range_with_len (n + 1) (length s.workers.items - (n + 1))) = ap (swept_to s r) whole ∙ swept_on s r (n + 1) (length s.workers.items - (n + 1)) in
    twice (subst AreWalkedOnce (next_worker s r n ∙ ap (λ (ws : List WalkRecord). swept_to s r n ++ ws) (sym own)) (once_before (swept_to s r (n + 1)) (flat_map (sweep_walks s r) (range_with_len (n + 1) (length s.workers.items - (n + 1)))) (subst AreWalkedOnce split once)))

-- the groups, the root among them
pub parents_count : (s : Script) (n : ℕ) → n ≡ length s.groups.items → n + 1 ≡ length (parents_of s)
parents_count s n e = let same = length-map s.groups.items (λ (g : GroupDecl). g.parent) in omega (arith, same, e)

pub groups_same : (s : Script) (g n : ℕ) (walks : List WalkRecord) (marks : List Bool) → g ≡ length (parents_of s) → AreMarked (length (parents_of s)) n walks marks → AreMarked g n walks marks
groups_same s g n walks marks same h = subst (λ (k : ℕ). AreMarked k n walks marks) (sym same) h

pub workers_more : (s : Script) (r : Report) (g n worker : ℕ) (walks : List WalkRecord) (marks : List Bool) → g ≡ length (parents_of s) → walks ≡ sweep_walks s r worker → AreMarked g n (swept_to s r worker ++ walks) marks
    → AreMarked (length (parents_of s)) n (swept_to s r (worker + 1)) marks
workers_more s r g n worker walks marks same own h =
    subst (λ (ws : List WalkRecord). AreMarked (length (parents_of s)) n ws marks) (ap (λ (ws : List WalkRecord). swept_to s r worker ++ ws) own ∙ sym (next_worker s r worker))
    (subst (λ (k : ℕ). AreMarked k n (swept_to s r worker ++ walks) marks) same h)

pub workers_all : (s : Script) (r : Report) (n worker : ℕ) (marks : List Bool) → length s.workers.items ≤ worker → worker ≤ length s.workers.items → AreMarked (length (parents_of s)) n (swept_to s r worker) marks
    → AreMarked (length (parents_of s)) n (all_sweep_walks s r) marks
workers_all s r n worker marks over under h =
    let same : worker ≡ length s.workers.items = omega (arith, over, under) in
    subst (λ (k : ℕ). AreMarked (length (parents_of s)) n (swept_to s r k) marks) same h

pub workers_twice : (s : Script) (r : Report) (worker : ℕ) (walks : List WalkRecord) (b : Bool) → worker < length s.workers.items → walks ≡ sweep_walks s r worker → Decides b (AreWalkedOnce (swept_to s r worker ++ walks)) → b ≡ false → Decides false (AreWalkedOnce (all_sweep_walks s r))
workers_twice s r worker walks b lt own d f = (λ t. absurd cc, λ once. absurd (all_twice s r worker walks lt own (λ h. clash b (d.1 h) f) once))

-- ---- all groups on all nodes

pub none_marked : (groups nodes : ℕ) (marks : List Bool) → length marks ≡ groups * nodes → ((i : ℕ) → get_or marks i false ≡ false) → AreMarked groups nodes [] marks
none_marked groups nodes marks size none = record { size = size; each = λ group node g n. none (job_index nodes group node); once = λ group node. omega arith }

pub marked_walked : (s : Script) (r : Report) (groups : ℕ) (marks : List Bool) (b : Bool) → groups ≡ length (parents_of s) → AreMarked (length (parents_of s)) s.nodes (all_sweep_walks s r) marks
    → Decides b ((group : ℕ) → group < groups → IsGroupMarked s.nodes group marks) → Decides b (AreSweptOnce s r true)
marked_walked s r groups marks b same h d = (
  λ t. record {
    once = h.once;
    all = λ w group node g n.
        let has = of_positive (times_in (all_sweep_walks s r) group node) (sym (h.each group node g n) ∙ d.0 t group (lt group g) node n) in
        let most = h.once group node in
        let one : times_in (all_sweep_walks s r) group node ≡ 1 = omega (arith, has, most) in one;
  },
  λ w. d.1 (λ group g node n. h.each group node (below group g) n ∙ ap (nat_lt 0) (w.all refl group node (below group g) n)),
)
  where
    lt : (group : ℕ) → group < length (parents_of s) → group < groups
    lt group g = subst (λ (k : ℕ). group < k) (sym same) g

    below : (group : ℕ) → group < groups → group < length (parents_of s)
    below group g = subst (λ (k : ℕ). group < k) same g

-- where not all must be walked
pub once_walked : (s : Script) (r : Report) (whole b : Bool) → whole ≡ false → Decides b (AreWalkedOnce (all_sweep_walks s r)) → b ≡ true → Decides true (AreSweptOnce s r whole)
once_walked s r whole b f d t = (λ u. record { once = d.0 t; all = λ w. absurd (clash whole w f) }, λ h. refl)

pub whole_walked : (s : Script) (r : Report) (whole : Bool) (groups : ℕ) (marks read : List Bool) (b : Bool) → whole ≡ true → groups ≡ length (parents_of s) → read ≡ marks → AreMarked (length (parents_of s)) s.nodes (all_sweep_walks s r) marks
    → Decides b ((group : ℕ) → group < groups → IsGroupMarked s.nodes group read) → Decides b (AreSweptOnce s r whole)
whole_walked s r whole groups marks read b w same own h d =
    subst (λ (v : Bool). Decides b (AreSweptOnce s r v)) (sym w)
    (marked_walked s r groups marks b same h (subst (λ (ms : List Bool). Decides b ((group : ℕ) → group < groups → IsGroupMarked s.nodes group ms)) own d))

-- the whole law
pub right_decided : (s : Script) (r : Report) (z : Sweep) (whole b : Bool) → HaveSweepAnswers s r z → Decides whole (AreSweptOut s r) → Decides b (AreSweptOnce s r whole) → Decides b (IsSweepRight s r z)
right_decided s r z whole b answered out d = (
  λ t. (let w = d.0 t in record { answers = answered; once = w.once; all = λ o. w.all (out.1 o) }),
  λ h. d.1 (record { once = h.once; all = λ t. h.all (out.0 t) }),
)
