-- SPDX-License-Identifier: GPL-2.0-only
-- What a put's charge with its reclaim did, by its answer: its rounds, and its operations group by group.
use Rattle.shr_assemble.proofs.Common.{◌≡◌, ℕ, suc, ◌-◌, ◌<◌, ◌≤◌, inl, inr, ⊎_elim, List, [], ◌∷◌, ◌++◌, length, length-append, map, take, drop, sym, refl, ap, subst, ◌∙◌, arith, append_assoc, slice_get, Some, AllByRecursion, append-nil, length-map, take-append-drop, map-append, Serial, Answered, Command, round_of, IsAtOrAbove, Job, job_of, Begins, parents_of, WorkerState, Work, no_work, then_work, Shared, Admission, Charged, Over, Memory, AreRoundsCut, AdmissionGives, Visit, Round, job_in, VisitHadMemory, due_in, refused, in_take, by_slices, all_push, ◌+◌, true, false, WalkRecord, path_of, Each-none, Refusal, Bool, not, cond, count_by, sum_by, pos, ◌-ℤ◌, ints, sum_by-append, UseStep, ups, downs, is_refused, AreDowns, IsDown, charged, limit_of, times_of, nets_downs, DidCharges, ops_at, added_below, made_freed_below, Made, Step, IsPut, each_append, each_weaker, all_slice_by}
use Rattle.shr_model.specs.Commands.{rounds_from}
use Rattle.shr_charge.specs.declared.answers.ChargeAnswer.TheVariants as charge
use Rattle.shr_assemble.proofs.WalkingWell.{IsTableOf}
use Rattle.shr_assemble.proofs.WalkingGives.{freed_none}
use Rattle.shr_assemble.proofs.WalkingCharges.{rec_of, GoesDown, all_of, all_down, same_parents}
use Rattle.shr_assemble.proofs.WalkingChain.{AllNoted, IsThereJob, gave_all, visited_one, all_had, all_cut, GaveAll, any_cut, FrontHad, front_had, front_then}
use Rattle.shr_assemble.proofs.WalkingSteps.{walked_still, Walked, walked_then, IsScanOne}
use Rattle.shr_assemble.proofs.PutRounds.{round_there, due_is, had_answers, EndsOver, Tried, tried_all}
use Rattle.shr_assemble.proofs.PutTries.{AreOps, ops_then, ops_walks, charge_parents, count_then, of_groups, refusals_are, path_once, on_path}
use Rattle.shr_walk.specs.Keeping as keeping
use Rattle.shr_assemble.proofs.Outcomes.{outcomes, outcomes_then, down_outcomes}
use Rattle.shr_assemble.proofs.PutWays.{Closed, Ends, closed_ends, ends_taken, ends_between, at_then, at_all, at_long, ups_is, downs_is, count_all}
use Rattle.shr_assemble.proofs.QuietCharges.{uncharging}

-- one round more
pub rounds_more : (parents : List ℕ) (nodes priority : ℕ) (gs : List ℕ) (g : ℕ) → rounds_from parents nodes priority (gs ++ g ∷ []) ≡ rounds_from parents nodes priority gs ++ round_of parents nodes (priority - length gs) g
unfolding rounds_from
rounds_more parents nodes priority [] g = append-nil (round_of parents nodes priority g) ∙ ap (λ n. round_of parents nodes n g) (let e : priority ≡ priority - 0 = omega arith in e)
rounds_more parents nodes priority (h ∷ gs) g = ap (λ l. round_of parents nodes priority h ++ l) (rounds_more parents nodes (priority - 1) gs g)
    ∙ (sym (append_assoc (round_of parents nodes priority h) (rounds_from parents nodes (priority - 1) gs) (round_of parents nodes (priority - 1 - length gs) g))
    ∙ ap (λ n. (round_of parents nodes priority h ++ rounds_from parents nodes (priority - 1) gs) ++ round_of parents nodes n g) (let e : priority - 1 - length gs ≡ priority - suc (length gs) = omega arith in e))

pub prefix_all : {A : Type 0} (P : A → Type 0) (xs ys : List A) → take (length xs) ys ≡ xs → AllByRecursion P ys → AllByRecursion P xs
prefix_all {A} P xs ys e h = by_slices P xs (λ i x at. all_slice_by P ys i x h (in_take ys (length xs) i x (subst (λ (l : List A). slice_get l i ≡ Some x) (sym e) at)))

-- the walks are those that were due, or a beginning of them where memory lacked
abbrev pub MadeDue : Admission → List Job → List Job → Type 0
MadeDue Memory made due = Begins made due
MadeDue r made due = made ≡ due

-- the groups in which a charge stands, and the group that an answer names
abbrev pub stands_in : Shared → ℕ → Admission → List ℕ
stands_in x group Charged = path_of x.charge.shape.parents.items group
stands_in x group (Over g operation usage) = []
stands_in x group Memory = []

-- how many of the tries weren't refused
abbrev pub stood_by : Admission → ℕ
stood_by Charged = 1
stood_by (Over g operation usage) = 0
stood_by Memory = 0

abbrev pub named_by : Admission → List ℕ
named_by (Over g operation usage) = g ∷ []
named_by r = []

-- all walks had memory, or all but the last where memory lacked
abbrev pub CutBy : Admission → List WalkRecord → Type 0
CutBy Memory ws = FrontHad ws
CutBy r ws = any_cut ws ≡ false

pub admitted_front : (answer : Admission) (ws : List WalkRecord) → CutBy answer ws → FrontHad ws
admitted_front Charged ws h = front_had ws h
admitted_front (Over g operation usage) ws h = front_had ws h
admitted_front Memory ws h = h

pub admitted_told : (answer : Admission) (X : Type 0) (ws : List WalkRecord) → CutBy answer ws → (answer ≡ Memory → X) → any_cut ws ≡ true → X
admitted_told Charged X ws h f e = absurd (let z : false ≡ true = sym h ∙ e in cc)
admitted_told (Over g operation usage) X ws h f e = absurd (let z : false ≡ true = sym h ∙ e in cc)
admitted_told Memory X ws h f e = f (λ i. Memory)

module _ (x : Shared) (table : IsTableOf x) (by : Serial) (c : Command) (a : Answered) (group : ℕ) (inside : group < length (parents_of x.script)) where
  pub record Admits (answer : Admission) (s t : WorkerState) : Type 0 where
    pub work : Work
    pub walked : Walked x.script by (Some c) a s t work
    pub rounds : List ℕ
    pub few : length rounds ≤ 13
    pub above : AllByRecursion (λ h. IsAtOrAbove (parents_of x.script) h group) rounds
    pub all : (g operation usage : ℕ) → answer ≡ Over g operation usage → length rounds ≡ 13
    pub made : MadeDue answer (map job_of work.walks) (rounds_from (parents_of x.script) x.script.nodes 12 rounds)
    pub cut : CutBy answer work.walks
    pub tries : ℕ
    pub fourteen : tries ≤ 14
    pub ops : AreOps x by group tries (rounds ++ named_by answer) (stands_in x group answer) work
    pub stood : tries ≡ length (rounds ++ named_by answer) + stood_by answer
    pub over : (g operation usage : ℕ) → answer ≡ Over g operation usage → EndsOver x by (record { group = g; operation = operation; usage = usage }) work.ops × (tries ≡ 14) × IsAtOrAbove (parents_of x.script) g group

  none_made : (s : WorkerState) → AreOps x by group 0 [] [] no_work
  none_made s = ops_walks x table by group inside a s s no_work [] (freed_none x by) tt refl refl (Each-none (IsScanOne by (length s.walks) []))

  cut_short : (s t : WorkerState) → AreRoundsCut x by group s t → Admits Memory s t
  cut_short s t h =
      let r : Tried x table by c a group inside 12 h.rounds (refused h.over) s h.begun = tried_all x table by c a group inside h.rounds (refused h.over) s h.begun h.tried in
      let same : h.priority ≡ 12 - length h.rounds = omega (arith, h.due) in
      let first : take (length (map job_in h.walks)) (due_in x (12 - length h.rounds) h.over.group) ≡ map job_in h.walks = ap (λ (n : ℕ). take (length (map job_in h.walks)) (due_in x n h.over.group)) (sym same) ∙ h.cut.first in
      let groups : List ℕ = map (λ (k : Round). k.over.group) h.rounds in
      let long : length (map (λ (k : Round). k.over.group) h.rounds) ≡ length h.rounds = length-map h.rounds (λ (k : Round). k.over.group) in
      let lt = h.due in let two = length-append (map (λ (k : Round). k.over.group) h.rounds) (h.over.group ∷ []) in
      let due : due_in x (12 - length h.rounds) h.over.group ≡ round_of (parents_of x.script) x.script.nodes (12 - length (map (λ (k : Round). k.over.group) h.rounds)) h.over.group = due_is x table (12 - length h.rounds) h.over.group ∙ ap (λ n. round_of (parents_of x.script) x.script.nodes (12 - n) h.over.group) (sym long) in
      let there : AllByRecursion (IsThereJob x) (due_in x (12 - length h.rounds) h.over.group) = subst (AllByRecursion (IsThereJob x)) (sym (due_is x table (12 - length h.rounds) h.over.group)) (round_there x table (12 - length h.rounds) h.over.group r.at_last.1) in
      let all : GaveAll x by (Some c) a (map job_in h.walks) (map (λ (v : Visit). v.answer) h.walks) h.begun t = gave_all x table by (Some c) a (map job_in h.walks) (map (λ (v : Visit). v.answer) h.walks) h.begun t (visited_one x by h.walks h.begun t h.cut.visited) (prefix_all (IsThereJob x) (map job_in h.walks) (due_in x (12 - length h.rounds) h.over.group) first there) in
      let both : Begins (map job_of all.work.walks) (map job_in h.walks) × FrontHad all.work.walks = ⊎_elim
      (λ had. let e = all_had (map job_in h.walks) (map (λ (v : Visit). v.answer) h.walks) all.work.walks all.noted (had_answers h.walks (rec_of VisitHadMemory h.walks had)) in (([], sym e.jobs_are ∙ sym (append-nil _)), front_had all.work.walks e.uncut))
      (λ cut. let e : map (λ (v : Visit). v.answer) h.walks ≡ map (λ (v : Visit). v.answer) cut.front ++ cut.last.answer ∷ [] = ap (map (λ (v : Visit). v.answer)) cut.whole ∙ map-append (λ (v : Visit). v.answer) cut.front (cut.last ∷ []) in
      let c = (all_cut (map job_in h.walks) (map (λ (v : Visit). v.answer) cut.front) cut.last.answer all.work.walks (subst (λ l. AllNoted (map job_in h.walks) l all.work.walks) e all.noted) (had_answers cut.front (rec_of VisitHadMemory cut.front cut.had)) cut.lacked) in (c.begins, c.front))
      h.cut.cut in let begins = both.0 in let cut = both.1 in
      let rest : List Job = begins.0 ++ drop (length (map job_in h.walks)) (due_in x (12 - length h.rounds) h.over.group) in
      let whole : due_in x (12 - length h.rounds) h.over.group ≡ map job_of all.work.walks ++ rest = sym (take-append-drop (length (map job_in h.walks)) (due_in x (12 - length h.rounds) h.over.group))
      ∙ (ap (λ l. l ++ drop (length (map job_in h.walks)) (due_in x (12 - length h.rounds) h.over.group)) (first ∙ begins.1) ∙ append_assoc (map job_of all.work.walks) begins.0 (drop (length (map job_in h.walks)) (due_in x (12 - length h.rounds) h.over.group))) in
      let between : AreOps x by group 0 [] [] all.work = ops_walks x table by group inside a h.begun t all.work all.work.walks all.freed all.born all.charges all.uncharges all.walked.scans in record {
        work = then_work r.work all.work;
        walked = walked_then x.script by (Some c) a s h.begun t r.work all.work r.walked all.walked;
        rounds = map (λ (k : Round). k.over.group) h.rounds ++ h.over.group ∷ [];
        few = omega (arith, long, lt, two);
        above = all_push (λ g. IsAtOrAbove (parents_of x.script) g group) (map (λ (k : Round). k.over.group) h.rounds) h.over.group r.above r.at_last.0;
        all = λ g operation usage e. absurd (cc);
        made = (
          rest,
          rounds_more (parents_of x.script) x.script.nodes 12 (map (λ (k : Round). k.over.group) h.rounds) h.over.group
              ∙ (ap (λ l. rounds_from (parents_of x.script) x.script.nodes 12 (map (λ (k : Round). k.over.group) h.rounds) ++ l) (sym due ∙ whole)
              ∙ (sym (append_assoc (rounds_from (parents_of x.script) x.script.nodes 12 (map (λ (k : Round). k.over.group) h.rounds)) (map job_of all.work.walks) rest)
              ∙ (ap (λ l. (l ++ map job_of all.work.walks) ++ rest) (sym r.jobs) ∙ ap (λ l. l ++ rest) (sym (map-append job_of r.work.walks all.work.walks))))),
        );
        cut = front_then r.work.walks all.work.walks r.uncut cut;
        tries = (1 + length h.rounds) + 0;
        fourteen = omega (arith, lt);
        ops = ops_then x by group (1 + length h.rounds) 0 (groups ++ h.over.group ∷ []) [] [] r.work all.work (omega (arith, long, two)) r.ops between;
        stood = let three = length-append (groups ++ h.over.group ∷ []) [] in omega (arith, long, two, three);
        over = λ g operation usage e. absurd (cc);
      }

  pub admits : (answer : Admission) (s t : WorkerState) → AdmissionGives x by group answer s t → Admits answer s t
  admits Charged s t h = let r = tried_all x table by c a group inside h.rounds charge.Charged s t h.tried in
      let long = length-map h.rounds (λ (k : Round). k.over.group) in let few = h.few in record {
        work = r.work;
        walked = r.walked;
        rounds = map (λ (k : Round). k.over.group) h.rounds;
        few = omega (arith, long, few);
        above = r.above;
        all = λ g operation usage e. absurd (cc);
        made = r.jobs;
        cut = r.uncut;
        tries = 1 + length h.rounds;
        fourteen = omega (arith, few);
        ops = r.ops;
        stood = let two = length-append (map (λ (k : Round). k.over.group) h.rounds) [] in omega (arith, long, two);
        over = λ g operation usage e. absurd (cc);
      }
  admits (Over g operation usage) s t h = let z : Refusal = record { group = g; operation = operation; usage = usage } in let r = tried_all x table by c a group inside h.rounds (refused (record { group = g; operation = operation; usage = usage })) s t h.tried in
      let long = length-map h.rounds (λ (k : Round). k.over.group) in let n = h.all in record {
        work = r.work;
        walked = r.walked;
        rounds = map (λ (k : Round). k.over.group) h.rounds;
        few = omega (arith, long, n);
        above = r.above;
        all = λ g' operation' usage' e. omega (arith, long, n);
        made = r.jobs;
        cut = r.uncut;
        tries = 1 + length h.rounds;
        fourteen = omega (arith, n);
        ops = r.ops;
        stood = let two = length-append (map (λ (k : Round). k.over.group) h.rounds) (g ∷ []) in omega (arith, long, two);
        over = λ g' operation' usage' e. (
          subst (λ (y : Refusal). EndsOver x by y r.work.ops) (let first : g ≡ g' = cc in let second : operation ≡ operation' = cc in let third : usage ≡ usage' = cc in λ i. record { group = first i; operation = second i; usage = third i }) r.over,
          omega (arith, n),
          let first : g ≡ g' = cc in subst (λ y. IsAtOrAbove (parents_of x.script) y group) first r.at_last.0,
        );
      }
  admits Memory s t (inl d) = record {
    work = no_work;
    walked = walked_still x.script by (Some c) a [] 0 0 [] s t d;
    rounds = [];
    few = omega arith;
    above = tt;
    all = λ g operation usage e. absurd (cc);
    made = (rounds_from (parents_of x.script) x.script.nodes 12 [], refl);
    cut = front_had [] refl;
    tries = 0;
    fourteen = omega arith;
    ops = none_made s;
    stood = refl;
    over = λ g operation usage e. absurd (cc);
  }
  admits Memory s t (inr h) = cut_short s t h

-- what an operation comes to stays the same with other steps beside it
pub ops_same : (x : Shared) (by : Serial) (group tries : ℕ) (over kept : List ℕ) (v w : Work) → AreOps x by group tries over kept v → w.ops ≡ v.ops → w.charges ≡ v.charges → w.uncharges ≡ v.uncharges
    → ((g : ℕ) → sum_by (made_freed_below (parents_of x.script) g) w.core.made ≡ sum_by (made_freed_below (parents_of x.script) g) v.core.made) → AreOps x by group tries over kept w
ops_same x by group tries over kept v w h same charges uncharges freed = record {
  charges = charges ∙ h.charges;
  uncharges = let e = h.uncharges in let d = ap downs same in omega (arith, e, d, uncharges);
  own = subst (AllByRecursion (λ (o : UseStep). o.by ≡ by)) (sym same) h.own;
  there = subst (AllByRecursion (λ (o : UseStep). o.group < length (parents_of x.script))) (sym same) h.there;
  each = ap (λ (l : List UseStep). ups (ops_at group l)) same ∙ h.each;
  most = λ g. subst (λ (l : List UseStep). ups (ops_at g l) ≤ tries) (sym same) (h.most g);
  net = λ g lt. let u = ap (λ (l : List UseStep). ups (ops_at g l)) same in let d = ap (λ (l : List UseStep). downs (ops_at g l)) same in let n = h.net g lt in let f = freed g in omega (arith, u, d, n, f);
  refusals = λ g. ap (λ (l : List UseStep). count_by (is_refused (limit_of x.script g)) (ops_at g l)) same ∙ h.refusals g;
  settled = λ g b long down. subst (λ (l : List UseStep). Closed (ops_at g l ++ b)) (sym same) (h.settled g b long down);
  ends = λ g. subst (λ (l : List UseStep). Ends (limit_of x.script g) (ops_at g l)) (sym same) (h.ends g);
  tried = λ g. ap (λ (l : List UseStep). outcomes (limit_of x.script g) (ops_at g l)) same ∙ h.tried g;
}

module _ (x : Shared) (table : IsTableOf x) (by : Serial) (group : ℕ) (inside : group < length (parents_of x.script)) where
  -- the charge that stands is taken back
  pub ops_back : (tries : ℕ) (over : List ℕ) (v : Work) (back : List UseStep) → AreOps x by group tries over (path_of x.charge.shape.parents.items group) v → AreDowns by (path_of (keeping.shared_parents x) group) back
      → AreOps x by group tries over [] (then_work v (uncharging back))
  ops_back tries over v back h downs_made =
      let same : path_of (keeping.shared_parents x) group ≡ path_of x.charge.shape.parents.items group = ap (λ p. path_of p group) (same_parents x table ∙ sym (charge_parents x table)) in
      let made : AreDowns by (path_of x.charge.shape.parents.items group) back = subst (λ l. AreDowns by l back) same downs_made in
      let each : AllByRecursion (IsDown by) back = rec_of (IsDown by) back made.each in
      let down : AllByRecursion GoesDown back = each_weaker (IsDown by) GoesDown (λ o d. d.down) back each in
      let closed : (g : ℕ) → Closed (ops_at g (v.ops ++ back)) = λ g. subst Closed (sym (at_then g v.ops back)) (h.settled g (ops_at g back) (at_long g back ∙ ap (times_of g) made.at) (all_down g back down)) in
      record {
        charges = let e = h.charges in omega (arith, e);
        uncharges = let e = h.uncharges in let d = sum_by-append (λ (o : UseStep). cond {A = ℕ} (not o.up) 1 0) v.ops back in let low = count_all (λ (y : UseStep). not y.up) group back in let is = downs_is group back in
            let n = (nets_downs x.charge.shape group by _ back made).down in let one = path_once x table by group inside in omega (arith, e, d, low, is, n, one);
        own = each_append (λ (o : UseStep). o.by ≡ by) v.ops back h.own (each_weaker (IsDown by) (λ (o : UseStep). o.by ≡ by) (λ o d. d.made) back each);
        there = each_append (λ (o : UseStep). o.group < length (parents_of x.script)) v.ops back h.there (of_groups (λ n. n < length (parents_of x.script)) back (subst (AllByRecursion (λ n. n < length (parents_of x.script))) (sym made.at) (on_path x table by group inside)));
        each = let e = count_then (λ (o : UseStep). o.up) group v.ops back in let z = ups_is group back in let n = (nets_downs x.charge.shape group by _ back made).up in let k = h.each in omega (arith, e, z, n, k);
        most = λ g. let e = count_then (λ (o : UseStep). o.up) g v.ops back in let z = ups_is g back in let n = (nets_downs x.charge.shape g by _ back made).up in let k = h.most g in omega (arith, e, z, n, k);
        net = λ g lt. let e = count_then (λ (o : UseStep). o.up) g v.ops back in let z = ups_is g back in let n = (nets_downs x.charge.shape g by _ back made).up in
            let f = count_then (λ (o : UseStep). not o.up) g v.ops back in let y = downs_is g back in let m = (nets_downs x.charge.shape g by _ back made).down in
            let s = sum_by-append (made_freed_below (parents_of x.script) g) v.core.made [] in let k = h.net g lt in omega (arith, e, z, n, f, y, m, s, k);
        refusals = λ g. let e = count_then (is_refused (limit_of x.script g)) g v.ops back in let n = refusals_are x table by group inside g 0 back (nets_downs x.charge.shape g by _ back made).refused in let k = h.refusals g in omega (arith, e, n, k);
        settled = λ g b long d. subst (λ (l : List UseStep). Closed (ops_at g (v.ops ++ back) ++ l)) (sym (none_of b long)) (subst Closed (sym (append-nil (ops_at g (v.ops ++ back)))) (closed g));
        ends = λ g. closed_ends (limit_of x.script g) (ops_at g (v.ops ++ back)) (closed g);
        tried = λ g. ap (outcomes (limit_of x.script g)) (at_then g v.ops back) ∙ (outcomes_then (limit_of x.script g) (ops_at g v.ops) (ops_at g back)
            ∙ (ap (λ (r : List Bool). outcomes (limit_of x.script g) (ops_at g v.ops) ++ r) (down_outcomes (limit_of x.script g) (ops_at g back) (all_down g back down)) ∙ (append-nil (outcomes (limit_of x.script g) (ops_at g v.ops)) ∙ h.tried g)));
      } where
        none_of : (b : List UseStep) → length b ≡ 0 → b ≡ []
        none_of [] e = refl
        none_of (o ∷ b) e = absurd (omega (arith, e))

  -- the charges of a put, by what its operations come to
  pub put_charges : (z : Step) (tries : ℕ) (over kept : List ℕ) → z.by ≡ by → IsPut z.command → tries ≤ 14 → AreOps x by group tries over kept z.work
      → ((g : ℕ) → g < length (parents_of x.script) → times_of g kept ≡ charged (parents_of x.script) g z.command (Some z.answered.reply))
      → ((g : ℕ) → sum_by (λ (m : Made). added_below (parents_of x.script) g m.entry) z.work.core.made ≡ charged (parents_of x.script) g z.command (Some z.answered.reply)) → DidCharges x.script z
  put_charges z tries over kept mine put few h stands added = record {
    own = all_of (λ (o : UseStep). o.by ≡ z.by) z.work.ops own;
    there = all_of (λ (o : UseStep). o.group < length (parents_of x.script)) z.work.ops h.there;
    taken_back = λ g. ends_taken z.by (limit_of x.script g) (ops_at g z.work.ops) (each_weaker (λ (o : UseStep). (o.by ≡ z.by) × (o.group ≡ g)) (λ (o : UseStep). o.by ≡ z.by) (λ o p. p.0) (ops_at g z.work.ops) (at_all (λ (o : UseStep). o.by ≡ z.by) g z.work.ops own)) (h.ends g);
    puts = λ k d lt up. put;
    fourteen = λ g. let m = h.most g in omega (arith, m, few);
    between = λ g. ends_between (limit_of x.script g) (ops_at g z.work.ops) (h.ends g);
    nets = λ g lt. same_net (ups (ops_at g z.work.ops)) (downs (ops_at g z.work.ops)) (sum_by (made_freed_below (parents_of x.script) g) z.work.core.made) (charged (parents_of x.script) g z.command (Some z.answered.reply))
        (h.net g lt ∙ ap (λ (n : ℕ). downs (ops_at g z.work.ops) + n) (stands g lt));
    added = added;
    charges = let c = h.charges in let e = h.each in let low = count_all (λ (y : UseStep). y.up) group z.work.ops in omega (arith, c, e, low);
    uncharges = h.uncharges;
  } where
    own : AllByRecursion (λ (o : UseStep). o.by ≡ z.by) z.work.ops
    own = subst (λ (b : Serial). AllByRecursion (λ (o : UseStep). o.by ≡ b) z.work.ops) (sym mine) h.own

    same_net : (u d f c : ℕ) → u + f ≡ d + c → pos u -ℤ pos d ≡ pos c -ℤ pos f
    same_net u d f c e = omega (arith, ints, e)
