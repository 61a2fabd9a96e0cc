-- SPDX-License-Identifier: GPL-2.0-only
-- Walks over jobs, one after another, each from where the one before it ended.
use Rattle.shr_assemble.proofs.Common.{◌≡◌, ℕ, suc, ◌+◌, ◌<◌, ◌⊎◌, inl, inr, ⊎_elim, Bool, true, false, ◌||◌, List, [], ◌∷◌, ◌++◌, length, length-append, map, sym, refl, ap, subst, ◌∙◌, arith, sum, zero, get_or, append_assoc, ◌≤◌, sum_by, Option, AllPairs, AllByRecursion, list_any, append-nil, get_or_append_left, sum_by-cons, sum-map, Object, Serial, Answered, Command, WalkAnswer, WalkRecord, Job, job, job_of, is_cut, Begins, Made, parents_of, OneGives, HadMemory, objects_freed, WorkerState, Work, no_work, then_work, does_none, Shared, Walk, Visit, job_in, AreVisited, each_append, freed_told, AreWalked, lacked_memory, walk_for}
use Rattle.shr_base.specs.declared.walks.WalkAnswer.TheVariants as answered
use Rattle.shr_walk.specs.Balances as balances
use Rattle.shr_assemble.proofs.WalkingWell.{IsTableOf}
use Rattle.shr_assemble.proofs.WalkingGives.{gave, Freed, freed_none, freed_then}
use Rattle.shr_assemble.proofs.WalkingSteps.{Walked, walked_still, walked_then}
use Rattle.shr_node.proofs.Marking.{second_false}
use Rattle.std.proofs.lemmas.Bool.{or_right}
use Rattle.shr_walk.proofs.Recording.{freed_then as freed_both}

-- the jobs were walked with these answers
abbrev pub AreOne : Shared → Serial → List Job → List WalkAnswer → WorkerState → WorkerState → Type 0
AreOne x by [] answers s t = (answers ≡ []) × (s ≡ t)
AreOne x by (j ∷ js) answers s t = (a : WalkAnswer) × (rest : List WalkAnswer) × (u : WorkerState) × (answers ≡ a ∷ rest) × OneGives x (walk_for by (length s.walks) j) a s u × AreOne x by js rest u t

-- each left its record, but where memory lacked
abbrev pub AllNoted : List Job → List WalkAnswer → List WalkRecord → Type 0
AllNoted [] answers ws = (answers ≡ []) × (ws ≡ [])
AllNoted (j ∷ js) answers ws = (a : WalkAnswer) × (rest : List WalkAnswer) × (first : List WalkRecord) × (later : List WalkRecord) × (answers ≡ a ∷ rest) × (ws ≡ first ++ later)
    × (((first ≡ []) × (a ≡ answered.Memory 0)) ⊎ ((r : WalkRecord) × (first ≡ r ∷ []) × (job_of r ≡ j) × (r.answer ≡ a))) × AllNoted js rest later

pub record IsThereJob (x : Shared) (j : Job) : Type 0 where
  pub node : j.node < x.script.nodes
  pub group : j.group < length (parents_of x.script)

pub record GaveAll (x : Shared) (by : Serial) (c : Option Command) (a : Answered) (jobs : List Job) (answers : List WalkAnswer) (s t : WorkerState) : Type 0 where
  pub work : Work
  pub walked : Walked x.script by c a s t work
  pub noted : AllNoted jobs answers work.walks
  pub freed : Freed x by work.core.made work.ops
  pub born : AllByRecursion (λ (o : Object). o.birth < length (parents_of x.script)) (objects_freed work.core.made)
  pub charges : work.charges ≡ 0
  pub uncharges : work.uncharges ≡ length (objects_freed work.core.made)

pub born_then : (x : Shared) (m n : List Made) → AllByRecursion (λ (o : Object). o.birth < length (parents_of x.script)) (objects_freed m) → AllByRecursion (λ (o : Object). o.birth < length (parents_of x.script)) (objects_freed n) → AllByRecursion (λ (o : Object). o.birth < length (parents_of x.script)) (objects_freed (m ++ n))
born_then x m n a b = subst (AllByRecursion (λ (o : Object). o.birth < length (parents_of x.script))) (sym (freed_both m n)) (each_append (λ (o : Object). o.birth < length (parents_of x.script)) (objects_freed m) (objects_freed n) a b)

pub uncharges_then : (m n : List Made) (i j : ℕ) → i ≡ length (objects_freed m) → j ≡ length (objects_freed n) → i + j ≡ length (objects_freed (m ++ n))
uncharges_then m n i j a b = let e = ap (λ (l : List Object). length l) (freed_both m n) in let d = length-append (objects_freed m) (objects_freed n) in omega (arith, a, b, e, d)

pub gave_all : (x : Shared) → IsTableOf x → (by : Serial) (c : Option Command) (a : Answered) (jobs : List Job) (answers : List WalkAnswer) (s t : WorkerState) → AreOne x by jobs answers s t → AllByRecursion (IsThereJob x) jobs → GaveAll x by c a jobs answers s t
gave_all x table by c a [] answers s t (none, same) there = subst (λ (u : WorkerState). GaveAll x by c a [] answers s u) same record {
  work = no_work;
  walked = walked_still x.script by c a [] 0 0 [] s s (does_none s);
  noted = (none, refl);
  freed = freed_none x by;
  born = tt;
  charges = refl;
  uncharges = refl;
}
gave_all x table by c a (j ∷ js) answers s t (b, rest, u, e, one, more) there =
    let first = gave x table (walk_for by (length s.walks) j) c a s u refl there.0.node there.0.group b one in
    let later = gave_all x table by c a js rest u t more there.1 in
    let p = first.charges in let q = later.charges in record {
      work = then_work first.work later.work;
      walked = walked_then x.script by c a s u t first.work later.work first.walked later.walked;
      noted = (b, rest, first.work.walks, later.work.walks, e, refl, ⊎_elim (λ none. inl none) (λ n. inr (n.noted, n.walks_are, n.job_is, n.answer_is)) first.told, later.noted);
      freed = freed_then x by first.work.core.made later.work.core.made first.work.ops later.work.ops first.freed later.freed;
      born = born_then x first.work.core.made later.work.core.made first.born later.born;
      charges = omega (arith, p, q);
      uncharges = uncharges_then first.work.core.made later.work.core.made first.work.uncharges later.work.uncharges first.uncharges later.uncharges;
    }

-- ---- the walks of a balance, and those of rounds, are such
pub walked_one : (x : Shared) (walk : Walk) (gs : List ℕ) (answers : List WalkAnswer) (s t : WorkerState) → AreWalked x walk gs answers s t → AreOne x walk.by (map (λ (g : ℕ). job g walk.node walk.priority walk.nofs) gs) answers s t
walked_one x walk [] answers s t h = h
walked_one x walk (g ∷ gs) answers s t (a, rest, u, e, one, more) = (a, rest, u, e, one, walked_one x walk gs rest u t more)

pub visited_one : (x : Shared) (by : Serial) (vs : List Visit) (s t : WorkerState) → AreVisited x by vs s t → AreOne x by (map job_in vs) (map (λ (v : Visit). v.answer) vs) s t
visited_one x by [] s t h = (refl, h)
visited_one x by (v ∷ vs) s t (one, more) = (v.answer, map (λ (w : Visit). w.answer) vs, v.after, refl, one, visited_one x by vs v.after t more)

-- ---- what the records tell
not_lacked : (a : WalkAnswer) → a ≡ answered.Memory 0 → lacked_memory a ≡ false → ⊥
not_lacked a e h = let d : true ≡ false = sym (ap lacked_memory e) ∙ h in cc

same_told : (a : WalkAnswer) → freed_told a ≡ balances.walk_freed a
same_told (answered.Walked freed) = refl
same_told a = refl

same_cut : (a : WalkAnswer) → is_cut a ≡ lacked_memory a
same_cut (answered.Walked freed) = refl
same_cut a = refl

abbrev pub told_by : List WalkRecord → ℕ
told_by ws = sum_by (λ (w : WalkRecord). freed_told w.answer) ws

none_first : (p q : Bool) → (p || q) ≡ false → p ≡ false
none_first true q e = e
none_first false q e = refl

abbrev pub any_cut : List WalkRecord → Bool
any_cut ws = list_any (λ (w : WalkRecord). is_cut w.answer) ws

-- all but the last had memory
pub record FrontHad (ws : List WalkRecord) : Type 0 where
  pub front : List WalkRecord
  pub rest : List WalkRecord
  pub whole : ws ≡ front ++ rest
  pub uncut : any_cut front ≡ false
  pub few : length rest ≤ 1

pub cut_both : (xs ys : List WalkRecord) → any_cut xs ≡ false → any_cut ys ≡ false → any_cut (xs ++ ys) ≡ false
cut_both [] ys a b = b
cut_both (x ∷ xs) ys a b = one (is_cut x.answer) (any_cut xs) a (λ rest. cut_both xs ys rest b) where
  one : (p q : Bool) → (p || q) ≡ false → (q ≡ false → any_cut (xs ++ ys) ≡ false) → (p || any_cut (xs ++ ys)) ≡ false
  one true q e f = absurd (let z : true ≡ false = e in cc)
  one false q e f = f e

pub front_had : (ws : List WalkRecord) → any_cut ws ≡ false → FrontHad ws
front_had ws e = record { front = ws; rest = []; whole = sym (append-nil ws); uncut = e; few = omega arith }

pub front_then : (xs ys : List WalkRecord) → any_cut xs ≡ false → FrontHad ys → FrontHad (xs ++ ys)
front_then xs ys e h = record {
  front = xs ++ h.front;
  rest = h.rest;
  whole = ap (λ (l : List WalkRecord). xs ++ l) h.whole ∙ sym (append_assoc xs h.front h.rest);
  uncut = cut_both xs h.front e h.uncut;
  few = h.few;
}

-- one walk alone
pub one_front : (ws : List WalkRecord) (w : WalkRecord) → ws ≡ w ∷ [] → FrontHad ws
one_front ws w e = record { front = []; rest = ws; whole = refl; uncut = refl; few = omega (arith, ap (λ (l : List WalkRecord). length l) e) }

-- of two walks of which all but the last had memory the first had
pub front_pairs : (ws : List WalkRecord) → FrontHad ws → AllPairs (λ (v w : WalkRecord). is_cut v.answer ≡ false) ws
front_pairs ws h i j d lt lj =
    let long = ap (λ (l : List WalkRecord). length l) h.whole in let parts = length-append h.front h.rest in let few = h.few in
    subst (λ (l : List WalkRecord). is_cut (get_or l i d).answer ≡ false) (sym h.whole)
    (subst (λ (w : WalkRecord). is_cut w.answer ≡ false) (sym (get_or_append_left h.front h.rest d i (omega (arith, lt, lj, long, parts, few)))) (uncut_at h.front h.uncut i d (omega (arith, lt, lj, long, parts, few)))) where
      uncut_at : (l : List WalkRecord) → any_cut l ≡ false → (n : ℕ) (d : WalkRecord) → n < length l → is_cut (get_or l n d).answer ≡ false
      uncut_at [] e n d less = absurd (omega (arith, less))
      uncut_at (x ∷ l) e zero d less = none_first (is_cut x.answer) (any_cut l) e
      uncut_at (x ∷ l) e (suc n) d less = uncut_at l (second_false (is_cut x.answer) (any_cut l) e) n d (omega (arith, less))

-- where each walk had memory, each left its record
pub record AllHad (jobs : List Job) (answers : List WalkAnswer) (ws : List WalkRecord) : Type 0 where
  pub jobs_are : map job_of ws ≡ jobs
  pub sum_told : told_by ws ≡ sum (map balances.walk_freed answers)
  pub uncut : any_cut ws ≡ false

sum_cons : (a : WalkAnswer) (rest : List WalkAnswer) → sum (map balances.walk_freed (a ∷ rest)) ≡ balances.walk_freed a + sum (map balances.walk_freed rest)
sum_cons a rest = let e = sum-map balances.walk_freed (a ∷ rest) in let d = sum-map balances.walk_freed rest in let c = sum_by-cons balances.walk_freed a rest in omega (arith, e, d, c)

had_more : (j : Job) (js : List Job) (a : WalkAnswer) (rest : List WalkAnswer) (r : WalkRecord) (later : List WalkRecord) → job_of r ≡ j → r.answer ≡ a → lacked_memory a ≡ false → AllHad js rest later → AllHad (j ∷ js) (a ∷ rest) (r ∷ later)
had_more j js a rest r later is answer had h = record {
  jobs_are = ap (λ k. k ∷ map job_of later) is ∙ ap (λ l. j ∷ l) h.jobs_are;
  sum_told = let e = sum_by-cons (λ (w : WalkRecord). freed_told w.answer) r later in let d = ap freed_told answer ∙ same_told a in let f = h.sum_told in omega (arith, e, d, f, sum_cons a rest);
  uncut = ap (λ b. b || any_cut later) (ap is_cut answer ∙ (same_cut a ∙ had)) ∙ h.uncut;
}

pub all_had : (jobs : List Job) (answers : List WalkAnswer) (ws : List WalkRecord) → AllNoted jobs answers ws → AllByRecursion HadMemory answers → AllHad jobs answers ws
all_had [] answers ws (e, d) h = subst (λ l. AllHad [] l ws) (sym e) (subst (AllHad [] []) (sym d) record { jobs_are = refl; sum_told = refl; uncut = refl })
all_had (j ∷ js) answers ws (a, rest, first, later, e, d, how, more) h =
    let had = subst (AllByRecursion HadMemory) e h in
    let then : AllHad js rest later = all_had js rest later more had.1 in
    subst (λ l. AllHad (j ∷ js) l ws) (sym e) (subst (AllHad (j ∷ js) (a ∷ rest)) (sym d)
    (⊎_elim (λ none. absurd (not_lacked a none.1 had.0)) (λ r. subst (λ l. AllHad (j ∷ js) (a ∷ rest) (l ++ later)) (sym r.1) (had_more j js a rest r.0 later r.2 r.3 had.0 then)) how))

-- where the last one alone lacked memory, it may have left none
pub record AllCut (jobs : List Job) (answers : List WalkAnswer) (ws : List WalkRecord) : Type 0 where
  pub front : FrontHad ws
  pub begins : Begins (map job_of ws) jobs
  pub sum_told : told_by ws ≡ sum (map balances.walk_freed answers)
  pub short : (length ws < length jobs) ⊎ (any_cut ws ≡ true)

cut_more : (j : Job) (js : List Job) (a : WalkAnswer) (rest : List WalkAnswer) (r : WalkRecord) (later : List WalkRecord) → job_of r ≡ j → r.answer ≡ a → lacked_memory a ≡ false → AllCut js rest later → AllCut (j ∷ js) (a ∷ rest) (r ∷ later)
cut_more j js a rest r later is answer had h = record {
  front = front_then (r ∷ []) later (ap (λ b. b || false) (ap is_cut answer ∙ (same_cut a ∙ had))) h.front;
  begins = (h.begins.0, ap (λ l. j ∷ l) h.begins.1 ∙ ap (λ k. k ∷ (map job_of later ++ h.begins.0)) (sym is));
  sum_told = let e = sum_by-cons (λ (w : WalkRecord). freed_told w.answer) r later in let d = ap freed_told answer ∙ same_told a in let f = h.sum_told in omega (arith, e, d, f, sum_cons a rest);
  short = ⊎_elim (λ lt. inl (omega (arith, lt))) (λ cut. inr (or_right (is_cut r.answer) (any_cut later) cut)) h.short;
}

-- the last job, with its answer
cut_last : (j : Job) (last : WalkAnswer) (ws : List WalkRecord) → lacked_memory last ≡ true → ((ws ≡ []) × (last ≡ answered.Memory 0)) ⊎ ((r : WalkRecord) × (ws ≡ r ∷ []) × (job_of r ≡ j) × (r.answer ≡ last)) → AllCut (j ∷ []) (last ∷ []) ws
cut_last j last ws lacked (inl (e, d)) = subst (AllCut (j ∷ []) (last ∷ [])) (sym e) record {
  front = front_had [] refl;
  begins = (j ∷ [], refl);
  sum_told = let f = ap balances.walk_freed d in let s = sum_cons last [] in let z : 0 ≡ sum (map balances.walk_freed (last ∷ [])) = omega (arith, f, s) in z;
  short = inl (omega arith);
}
cut_last j last ws lacked (inr (r, e, is, answer)) = subst (AllCut (j ∷ []) (last ∷ [])) (sym e) record {
  front = record { front = []; rest = r ∷ []; whole = refl; uncut = refl; few = omega arith };
  begins = ([], ap (λ k. k ∷ []) (sym is));
  sum_told = let f = sum_by-cons (λ (w : WalkRecord). freed_told w.answer) r [] in let s = sum_cons last [] in let d = ap freed_told answer ∙ same_told last in omega (arith, f, s, d);
  short = inr (ap (λ b. b || false) (ap is_cut answer ∙ (same_cut last ∙ lacked)));
}

pub all_cut : (jobs : List Job) (front : List WalkAnswer) (last : WalkAnswer) (ws : List WalkRecord) → AllNoted jobs (front ++ last ∷ []) ws → AllByRecursion HadMemory front → lacked_memory last ≡ true → AllCut jobs (front ++ last ∷ []) ws
all_cut [] front last ws (e, d) h lacked = let n = ap (λ (l : List WalkAnswer). length l) e in let m = length-append front (last ∷ []) in absurd (omega (arith, n, m))
all_cut (j ∷ k ∷ js) [] last ws (a, rest, first, later, e, d, how, (b, others, f, l, e', d', how', more)) h lacked =
    let n : 1 ≡ suc (length rest) = ap (λ (z : List WalkAnswer). length z) e in let m : length rest ≡ suc (length others) = ap (λ (z : List WalkAnswer). length z) e' in absurd (omega (arith, n, m))
all_cut (j ∷ []) [] last ws (a, rest, first, later, e, d, how, (none, no_later)) h lacked =
    let same : last ≡ a = cc in let whole : ws ≡ first = d ∙ (ap (λ l. first ++ l) no_later ∙ append-nil first) in
    cut_last j last ws lacked (⊎_elim (λ no. inl (whole ∙ no.0, same ∙ no.1)) (λ r. inr (r.0, whole ∙ r.1, r.2, r.3 ∙ sym same)) how)
all_cut (j ∷ js) (b ∷ front) last ws (a, rest, first, later, e, d, how, more) h lacked =
    let same : b ≡ a = cc in let rest_is : front ++ last ∷ [] ≡ rest = cc in
    let then = all_cut js front last later (subst (λ l. AllNoted js l later) (sym rest_is) more) h.1 lacked in
    subst (AllCut (j ∷ js) (b ∷ (front ++ last ∷ []))) (sym d)
    (⊎_elim (λ none. absurd (not_lacked b (same ∙ none.1) h.0)) (λ r. subst (λ l. AllCut (j ∷ js) (b ∷ (front ++ last ∷ [])) (l ++ later)) (sym r.1) (cut_more j js b (front ++ last ∷ []) r.0 later r.2 (r.3 ∙ sym same) h.0 then)) how)
