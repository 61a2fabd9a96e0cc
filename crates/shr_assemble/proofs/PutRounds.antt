-- SPDX-License-Identifier: GPL-2.0-only
-- The tries of a put's charge and the walks between them: their jobs and their operations.
use Rattle.shr_assemble.proofs.Common.{false, ◌≡◌, ℕ, ◌-◌, ◌<◌, List, [], ◌∷◌, ◌++◌, length, map, sym, refl, ap, subst, ◌∙◌, flat_map, Some, AllByRecursion, range_with_len, map-append, Serial, Answered, Command, UseStep, round_of, IsTree, IsAtOrAbove, preorder_of, job, job_of, Has_from_Contains, ChargeAnswer, ChargeOps, shape_of, parents_of, Groups, HadMemory, WorkerState, Work, then_work, Shared, Visit, Round, job_in, VisitHadMemory, due_in, AreRounds, TriesInRounds, IsChargeTried, charge_work, by_slices, preorder_of-on, refused_above, ◌+◌, arith, append_assoc, pos, IsDown, Refusal, over_of, kept_of, each_weaker, IsOverLimit}
use Rattle.shr_model.specs.Commands.{rounds_from}
use Rattle.shr_charge.specs.declared.answers.ChargeAnswer.TheVariants.{Charged, Over}
use Rattle.shr_assemble.proofs.Spending.{refused_there}
use Rattle.shr_lawful.proofs.Listed.{slice_contains}
use Rattle.shr_assemble.proofs.WalkingWell.{range_below, IsTableOf}
use Rattle.shr_assemble.proofs.WalkingCharges.{rec_of, tree_is, GoesDown}
use Rattle.shr_assemble.proofs.WalkingChain.{IsThereJob, gave_all, visited_one, all_had, GaveAll, any_cut, cut_both}
use Rattle.shr_assemble.proofs.WalkingSteps.{Walked, walked_still, walked_then}
use Rattle.shr_charge.specs.declared.answers.ChargeAnswer.TheVariants as charge
use Rattle.shr_assemble.proofs.PutTries.{charge_parents, AreOps, ops_then, ops_try, ops_walks}

-- ---- the jobs of a round are there
all_flat : {A B : Type 0} (P : A → Type 0) (Q : B → Type 0) (f : A → List B) (l : List A) → AllByRecursion P l → ((y : A) → P y → AllByRecursion Q (f y)) → AllByRecursion Q (flat_map f l)
all_flat P Q f [] h g = tt
all_flat P Q f (y ∷ l) h g = both (f y) (flat_map f l) (g y h.0) (all_flat P Q f l h.1 g) where
  both : (xs ys : List _) → AllByRecursion Q xs → AllByRecursion Q ys → AllByRecursion Q (xs ++ ys)
  both [] ys p q = q
  both (z ∷ xs) ys p q = (p.0, both xs ys p.1 q)

abbrev pub groups_in : List Round → List ℕ
groups_in rounds = map (λ (k : Round). k.over.group) rounds

pub had_answers : (vs : List Visit) → AllByRecursion VisitHadMemory vs → AllByRecursion HadMemory (map (λ (v : Visit). v.answer) vs)
had_answers [] h = tt
had_answers (v ∷ vs) h = (h.0, had_answers vs h.1)

module _ (x : Shared) (table : IsTableOf x) where
  groups_of : x.tree.parents ≡ parents_of x.script
  groups_of = ap (λ (k : Groups). k.parents) table.shared.tree

  jobs_there : (node priority : ℕ) (gs : List ℕ) → node < x.script.nodes → AllByRecursion (λ g. g < length (parents_of x.script)) gs → AllByRecursion (IsThereJob x) (map (λ (g : ℕ). job g node priority false) gs)
  jobs_there node priority [] there h = tt
  jobs_there node priority (g ∷ gs) there h = (record { node = there; group = h.0 }, jobs_there node priority gs there h.1)

  below : (g : ℕ) → g < length (parents_of x.script) → AllByRecursion (λ b. b < length (parents_of x.script)) (preorder_of (parents_of x.script) g)
  below g lt = by_slices (λ b. b < length (parents_of x.script)) (preorder_of (parents_of x.script) g)
      (λ i b e. (preorder_of-on (parents_of x.script) (tree_is x table) g b lt (Has_from_Contains (preorder_of (parents_of x.script) g) b (slice_contains (preorder_of (parents_of x.script) g) i b e))).1)

  pub round_there : (priority g : ℕ) → g < length (parents_of x.script) → AllByRecursion (IsThereJob x) (round_of (parents_of x.script) x.script.nodes priority g)
  round_there priority g lt = all_flat (λ node. node < x.script.nodes) (IsThereJob x) (λ node. map (λ (h : ℕ). job h node priority false) (preorder_of (parents_of x.script) g)) (range_with_len 0 x.script.nodes)
      (range_below x.script.nodes) (λ node there. jobs_there node priority (preorder_of (parents_of x.script) g) there (below g lt))

  pub due_is : (priority g : ℕ) → due_in x priority g ≡ round_of (parents_of x.script) x.script.nodes priority g
  due_is priority g = ap (λ p. round_of p (shape_of x.core).nodes priority g) groups_of ∙ ap (λ n. round_of (parents_of x.script) n priority g) table.shared.nodes

  -- the group that refused a try is at or above the charged one
  abbrev pub RefusedAt : ℕ → ChargeAnswer → Type 0
  RefusedAt group Charged = Unit {0}
  RefusedAt group (Over level number usage) = IsAtOrAbove (parents_of x.script) level group × (level < length (parents_of x.script))

  pub refused_at : (by : Serial) (group : ℕ) → group < length (parents_of x.script) → (answer : ChargeAnswer) (ops : List UseStep) → ChargeOps x.charge.shape by group answer ops → RefusedAt group answer
  refused_at by group lt Charged ops h = tt
  refused_at by group lt (Over level number usage) ops h =
      let tree = subst IsTree (sym (charge_parents x table)) (tree_is x table) in let there = subst (λ (p : List ℕ). group < length p) (sym (charge_parents x table)) lt in (
        subst (λ p. IsAtOrAbove p level group) (charge_parents x table) (refused_above x.charge.shape by group level number usage ops tree there h),
        subst (λ (p : List ℕ). level < length p) (charge_parents x table) (refused_there x.charge.shape by group level number usage ops tree there h),
      )

-- the last up of these operations was refused, and only downs follow it
pub record EndsOver (x : Shared) (by : Serial) (r : Refusal) (ops : List UseStep) : Type 0 where
  pub front : List UseStep
  pub over : UseStep
  pub back : List UseStep
  pub whole : ops ≡ front ++ over ∷ back
  pub is : IsOverLimit x.charge.shape by over
  pub here : over.group ≡ r.group
  pub number : over.operation ≡ r.operation
  pub found : over.found ≡ pos r.usage
  pub downs : AllByRecursion GoesDown back

abbrev pub OverAtLast : Shared → Serial → ChargeAnswer → List UseStep → Type 0
OverAtLast x by charge.Charged ops = Unit {0}
OverAtLast x by (charge.Over group operation usage) ops = EndsOver x by (record { group = group; operation = operation; usage = usage }) ops

over_tried : (x : Shared) (by : Serial) (group : ℕ) (answer : ChargeAnswer) (ops : List UseStep) → ChargeOps x.charge.shape by group answer ops → OverAtLast x by answer ops
over_tried x by group charge.Charged ops h = tt
over_tried x by group (charge.Over level operation usage) ops h = record {
  front = h.ups;
  over = h.over;
  back = h.downs;
  whole = h.whole;
  is = h.refused;
  here = h.here;
  number = h.operation;
  found = h.found;
  downs = each_weaker (IsDown by) GoesDown (λ o d. d.down) h.downs (rec_of (IsDown by) h.downs h.taken_back.each);
}

over_after : (x : Shared) (by : Serial) (answer : ChargeAnswer) (a b : List UseStep) → OverAtLast x by answer b → OverAtLast x by answer (a ++ b)
over_after x by charge.Charged a b h = tt
over_after x by (charge.Over group operation usage) a b h = record {
  front = a ++ h.front;
  over = h.over;
  back = h.back;
  whole = ap (λ l. a ++ l) h.whole ∙ sym (append_assoc a h.front (h.over ∷ h.back));
  is = h.is;
  here = h.here;
  number = h.number;
  found = h.found;
  downs = h.downs;
}

module _ (x : Shared) (table : IsTableOf x) (by : Serial) (c : Command) (a : Answered) (group : ℕ) (inside : group < length (parents_of x.script)) where
  -- a charge that was tried so often, with the rounds between
  pub record Tried (priority : ℕ) (rounds : List Round) (last : ChargeAnswer) (s t : WorkerState) : Type 0 where
    pub work : Work
    pub walked : Walked x.script by (Some c) a s t work
    pub jobs : map job_of work.walks ≡ rounds_from (parents_of x.script) x.script.nodes priority (groups_in rounds)
    pub above : AllByRecursion (λ h. IsAtOrAbove (parents_of x.script) h group) (groups_in rounds)
    pub at_last : RefusedAt x table group last
    pub uncut : any_cut work.walks ≡ false
    pub ops : AreOps x by group (1 + length rounds) (groups_in rounds ++ over_of last) (kept_of x group last) work
    pub over : OverAtLast x by last work.ops

  -- a try, the walks that follow it, and what came later
  pub tried_rounds : (priority : ℕ) (first : ChargeAnswer) (rounds : List Round) (last : ChargeAnswer) (r s t : WorkerState) → IsChargeTried x by group first r s → AreRounds x by group priority first rounds last s t → Tried priority rounds last r t
  unfolding rounds_from
  tried_rounds priority first [] last r s t try h = subst (λ (u : WorkerState). Tried priority [] last r u) h.1 (subst (λ (b : ChargeAnswer). Tried priority [] b r s) h.0 record {
    work = charge_work try.ops;
    walked = walked_still x.script by (Some c) a try.ops 1 0 [] r s try.does;
    jobs = refl;
    above = tt;
    at_last = refused_at x table by group inside first try.ops try.made;
    uncut = refl;
    ops = ops_try x table by group inside first try.ops try.made;
    over = over_tried x by group first try.ops try.made;
  })
  tried_rounds priority first (k ∷ ks) last r s t try (one, more) =
      let at = subst (RefusedAt x table group) one.refused_so (refused_at x table by group inside first try.ops try.made) in
      let mine : AreOps x by group 1 (k.over.group ∷ []) [] (charge_work try.ops) = subst (λ (b : ChargeAnswer). AreOps x by group 1 (over_of b) (kept_of x group b) (charge_work try.ops)) one.refused_so (ops_try x table by group inside first try.ops try.made) in
      let due : map job_in k.walks ≡ round_of (parents_of x.script) x.script.nodes k.priority k.over.group = one.walks.all ∙ due_is x table k.priority k.over.group in
      let there = subst (AllByRecursion (IsThereJob x)) (sym due) (round_there x table k.priority k.over.group at.1) in
      let all : GaveAll x by (Some c) a (map job_in k.walks) (map (λ (v : Visit). v.answer) k.walks) s k.walked = gave_all x table by (Some c) a (map job_in k.walks) (map (λ (v : Visit). v.answer) k.walks) s k.walked (visited_one x by k.walks s k.walked one.walks.visited) there in
      let had = all_had (map job_in k.walks) (map (λ (v : Visit). v.answer) k.walks) all.work.walks all.noted (had_answers k.walks (rec_of VisitHadMemory k.walks one.walks.had)) in
      let between : AreOps x by group 0 [] [] all.work = ops_walks x table by group inside a s k.walked all.work all.work.walks all.freed all.born all.charges all.uncharges all.walked.scans in
      let later = tried_rounds (priority - 1) k.answer ks last k.walked k.tried t one.try more in
      let trying = walked_still x.script by (Some c) a try.ops 1 0 [] r s try.does in record {
        work = then_work (charge_work try.ops) (then_work all.work later.work);
        walked = walked_then x.script by (Some c) a r s t (charge_work try.ops) (then_work all.work later.work) trying (walked_then x.script by (Some c) a s k.walked t all.work later.work all.walked later.walked);
        jobs = map-append job_of all.work.walks later.work.walks ∙ (ap (λ l. l ++ map job_of later.work.walks) (had.jobs_are ∙ due)
            ∙ (ap (λ n. round_of (parents_of x.script) x.script.nodes n k.over.group ++ map job_of later.work.walks) one.priority_is ∙ ap (λ l. round_of (parents_of x.script) x.script.nodes priority k.over.group ++ l) later.jobs));
        above = (at.0, later.above);
        at_last = later.at_last;
        uncut = cut_both all.work.walks later.work.walks had.uncut later.uncut;
        ops = let count : 1 + (0 + (1 + length ks)) ≡ 1 + length (k ∷ ks) = omega arith in subst (λ (n : ℕ). AreOps x by group n (k.over.group ∷ (groups_in ks ++ over_of last)) (kept_of x group last) (then_work (charge_work try.ops) (then_work all.work later.work))) count
            (ops_then x by group 1 (0 + (1 + length ks)) (k.over.group ∷ []) (groups_in ks ++ over_of last) (kept_of x group last) (charge_work try.ops) (then_work all.work later.work) refl mine
            (ops_then x by group 0 (1 + length ks) [] (groups_in ks ++ over_of last) (kept_of x group last) all.work later.work refl between later.ops));
        over = over_after x by last try.ops (all.work.ops ++ later.work.ops) (over_after x by last all.work.ops later.work.ops later.over);
      }

  pub tried_all : (rounds : List Round) (last : ChargeAnswer) (s t : WorkerState) → TriesInRounds x by group rounds last s t → Tried 12 rounds last s t
  tried_all rounds last s t h = tried_rounds 12 h.first rounds last s h.tried t h.try h.follow
