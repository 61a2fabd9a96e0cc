-- SPDX-License-Identifier: GPL-2.0-only
-- A `balance` did what the report asks.
use Rattle.shr_assemble.proofs.Common.{◌≡◌, ℕ, zero, suc, ◌+◌, ◌<◌, ◌≤◌, ◌⊎◌, inl, inr, ⊎_elim, Bool, true, false, ◌&&◌, List, [], ◌∷◌, ◌++◌, length, length-append, map, take, drop, sym, refl, ap, subst, ◌∙◌, arith, append_assoc, eq-eqb, ne_eqb, slice_get, Some, not, ◌==◌, if◌then◌else◌, Option, AllByRecursion, length-map, take-append-drop, map-append, none-some, Serial, Answered, Command, Balance, WalkAnswer, WalkRecord, preorder_of, Job, job, job_of, parents_of, Groups, HadMemory, WorkerState, no_work, Does, Shared, Walk, next_walk, unfound, walk_reply, in_take, balance_reply, all_groups, IsBalanced, IsBalanceCut, BalanceGives, Balances, Step, DidJobs, MayBeOffline, KnowsOnline, Reply, None}
use Rattle.shr_assemble.proofs.QuietSteps.{meets_none}
use Rattle.shr_base.specs.declared.replies.Reply.TheVariants as reply
use Rattle.shr_base.specs.declared.walks.WalkAnswer.TheVariants as answered
use Rattle.shr_model.specs.Groups.{preorder_within}
use Rattle.shr_walk.proofs.Balancing.{all_within}
use Rattle.shr_assemble.proofs.QuietTenant.{brings_of}
use Rattle.shr_lawful.proofs.Listed.{slice_contains}
use Rattle.shr_assemble.proofs.WalkingWell.{IsTableOf, begins_prefix}
use Rattle.shr_assemble.proofs.WalkingGives.{freed_none}
use Rattle.shr_assemble.proofs.WalkingCharges.{rec_of, tree_is}
use Rattle.shr_assemble.proofs.WalkingChain.{IsThereJob, gave_all, walked_one, all_had, all_cut, told_by, any_cut, front_had, front_pairs}
use Rattle.shr_assemble.proofs.WalkingDid.{Stepping, walks_did}
use Rattle.shr_assemble.proofs.WalkingSteps.{walked_still, step_of}

some_group : (n : ℕ) (parents : List ℕ) (g : ℕ) → 0 < n → 0 < length (preorder_within n parents g)
unfolding preorder_within
some_group zero parents g lt = absurd (omega arith)
some_group (suc n) parents g lt = omega arith

-- what the records say of the reply
both_false : (a b : Bool) → (a ≡ false) ⊎ (b ≡ true) → (a && not b) ≡ false
both_false false b h = refl
both_false true false (inl h) = h
both_false true false (inr h) = absurd (let e : false ≡ true = h in cc)
both_false true true h = refl

reply_whole : (groups : ℕ) (ws : List WalkRecord) → length ws ≡ groups → any_cut ws ≡ false → reply.Walked (told_by ws) ≡ balance_reply groups ws
reply_whole groups ws long uncut = ap (λ b. if b then reply.Walked (told_by ws) else reply.WalkMemory (told_by ws)) (sym (ap (λ b. b && not (any_cut ws)) (eq-eqb (length ws) groups long) ∙ ap not uncut))

reply_cut : (groups : ℕ) (ws : List WalkRecord) → (length ws < groups) ⊎ (any_cut ws ≡ true) → reply.WalkMemory (told_by ws) ≡ balance_reply groups ws
reply_cut groups ws short = ap (λ b. if b then reply.Walked (told_by ws) else reply.WalkMemory (told_by ws))
    (sym (both_false (length ws == groups) (any_cut ws) (⊎_elim (λ lt. inl (ne_eqb (length ws) groups (λ e. omega (arith, e, lt)))) (λ cut. inr cut) short)))

module _ (x : Shared) (table : IsTableOf x) (by : Serial) (node priority : ℕ) (nofs : Bool) (s t : WorkerState) where
  abbrev pub walk_of : Walk
  walk_of = next_walk by s 0 node priority nofs

  abbrev pub Command_of : Option Command
  Command_of = Some (Balance node priority nofs)

  abbrev pub jobs_for : List ℕ → List Job
  jobs_for gs = map (λ (g : ℕ). job g node priority nofs) gs

  same_groups : all_groups x ≡ preorder_of (parents_of x.script) 0
  same_groups = ap (λ (k : Groups). preorder_of k.parents 0) table.shared.tree

  inside : (g : ℕ) (i : ℕ) → slice_get (all_groups x) i ≡ Some g → g < length (parents_of x.script)
  inside g i e = all_within (parents_of x.script) (tree_is x table) g (slice_contains (preorder_of (parents_of x.script) 0) i g (ap (λ (l : List ℕ). slice_get l i) (sym same_groups) ∙ e))

  jobs_there : (gs : List ℕ) → node < x.script.nodes → ((i g : ℕ) → slice_get gs i ≡ Some g → g < length (parents_of x.script)) → AllByRecursion (IsThereJob x) (jobs_for gs)
  jobs_there [] there h = tt
  jobs_there (g ∷ gs) there h = (record { node = there; group = h 0 g refl }, jobs_there gs there (λ i k e. h (suc i) k e))

  -- it asks for no group, and tells of none
  unasked : (r : Reply) (g : ℕ) → None ≡ Some g → 0 < g → MayBeOffline r ⊎ KnowsOnline s.tree g
  unasked r g e above = absurd (none-some g e)

  whole : (freed : ℕ) (g : IsBalanced x walk_of freed s t) → node < x.script.nodes → Stepping x by Command_of (unfound (reply.Walked freed)) s t
  whole freed g there =
      let one = walked_one x walk_of (all_groups x) g.answers s t g.walked in
      let all = gave_all x table by Command_of (unfound (reply.Walked freed)) (jobs_for (all_groups x)) g.answers s t one (jobs_there (all_groups x) there (λ i k e. inside k i e)) in
      let had = all_had (jobs_for (all_groups x)) g.answers all.work.walks all.noted (rec_of HadMemory g.answers g.had) in
      let jobs : map job_of all.work.walks ≡ jobs_for (preorder_of (parents_of x.script) 0) = had.jobs_are ∙ ap jobs_for same_groups in
      let long : length all.work.walks ≡ length (preorder_of (parents_of x.script) 0) = sym (length-map all.work.walks job_of) ∙ (ap (λ (l : List Job). length l) jobs ∙ length-map (preorder_of (parents_of x.script) 0) (λ (k : ℕ). job k node priority nofs)) in record {
        work = all.work;
        does = brings_of all.walked.does;
        did = walks_did x table by Command_of (reply.Walked freed) s t all.work all.walked all.freed all.born all.charges all.uncharges (
            let z : Step = step_of x.script by Command_of (unfound (reply.Walked freed)) s t all.work in
            let asked : DidJobs x.script z (Balance node priority nofs) = record { rounds = []; refused = refl; made = jobs; told = ap reply.Walked (g.sum_freed ∙ sym had.sum_told) ∙ reply_whole (length (preorder_of (parents_of x.script) 0)) all.work.walks long had.uncut; cut = front_pairs all.work.walks (front_had all.work.walks had.uncut); cut_told = λ e. absurd (let f : false ≡ true = sym had.uncut ∙ e in cc) } in
            assumption (asked, unasked (reply.Walked freed), meets_none x.script z (λ k e. absurd (cc)) (λ k e. none-some k e)));
      }

  cut : (freed : ℕ) (g : IsBalanceCut x walk_of freed s t) → node < x.script.nodes → Stepping x by Command_of (unfound (reply.WalkMemory freed)) s t
  cut freed g there =
      let gs = take (g.n + 1) (all_groups x) in
      let one = walked_one x walk_of (take (g.n + 1) (all_groups x)) (g.answers ++ g.last ∷ []) s t g.walked in
      let all = gave_all x table by Command_of (unfound (reply.WalkMemory freed)) (jobs_for (take (g.n + 1) (all_groups x))) (g.answers ++ g.last ∷ []) s t one
      (jobs_there (take (g.n + 1) (all_groups x)) there (λ i k e. inside k i (in_take (all_groups x) (g.n + 1) i k e))) in
      let c = all_cut (jobs_for (take (g.n + 1) (all_groups x))) g.answers g.last all.work.walks all.noted (rec_of HadMemory g.answers g.had) g.lacked in
      let due : jobs_for (preorder_of (parents_of x.script) 0) ≡ map job_of all.work.walks ++ (c.begins.0 ++ jobs_for (drop (g.n + 1) (all_groups x))) = ap jobs_for (sym same_groups ∙ sym (take-append-drop (g.n + 1) (all_groups x)))
      ∙ (map-append (λ (k : ℕ). job k node priority nofs) (take (g.n + 1) (all_groups x)) (drop (g.n + 1) (all_groups x)) ∙ (ap (λ l. l ++ jobs_for (drop (g.n + 1) (all_groups x))) c.begins.1 ∙ append_assoc (map job_of all.work.walks) c.begins.0 (jobs_for (drop (g.n + 1) (all_groups x))))) in
      let few : length (jobs_for (take (g.n + 1) (all_groups x))) ≤ length (preorder_of (parents_of x.script) 0) = let a = length-map (take (g.n + 1) (all_groups x)) (λ (k : ℕ). job k node priority nofs) in
      let b = ap (λ (l : List ℕ). length l) (take-append-drop (g.n + 1) (all_groups x)) in let d = length-append (take (g.n + 1) (all_groups x)) (drop (g.n + 1) (all_groups x)) in let e = ap (λ (l : List ℕ). length l) same_groups in omega (arith, a, b, d, e) in record {
        work = all.work;
        does = brings_of all.walked.does;
        did = walks_did x table by Command_of (reply.WalkMemory freed) s t all.work all.walked all.freed all.born all.charges all.uncharges (
            let z : Step = step_of x.script by Command_of (unfound (reply.WalkMemory freed)) s t all.work in
            let asked : DidJobs x.script z (Balance node priority nofs) = record { rounds = []; refused = refl; made = begins_prefix (map job_of all.work.walks) (c.begins.0 ++ jobs_for (drop (g.n + 1) (all_groups x))) (jobs_for (preorder_of (parents_of x.script) 0)) due; told = ap reply.WalkMemory (g.sum_freed ∙ sym c.sum_told) ∙ reply_cut (length (preorder_of (parents_of x.script) 0)) all.work.walks (⊎_elim (λ lt. inl (omega (arith, lt, few))) (λ d. inr d) c.short); cut = front_pairs all.work.walks c.front; cut_told = λ e. tt } in
            assumption (asked, unasked (reply.WalkMemory freed), meets_none x.script z (λ k e. absurd (cc)) (λ k e. none-some k e)));
      }

  -- without room for the order of the groups nothing was done
  nothing_done : Does s t no_work → Stepping x by Command_of (unfound (reply.WalkMemory 0)) s t
  nothing_done d = record {
    work = no_work;
    does = brings_of d;
    did = walks_did x table by Command_of (reply.WalkMemory 0) s t no_work (walked_still x.script by Command_of (unfound (reply.WalkMemory 0)) [] 0 0 [] s t d) (freed_none x by) tt refl refl (
        let z : Step = step_of x.script by Command_of (unfound (reply.WalkMemory 0)) s t no_work in
        let asked : DidJobs x.script z (Balance node priority nofs) = record { rounds = []; refused = refl; made = refl; told = reply_cut (length (preorder_of (parents_of x.script) 0)) [] (inl (some_group (length (parents_of x.script)) (parents_of x.script) 0 (omega arith))); cut = front_pairs [] (front_had [] refl); cut_told = λ e. tt } in
        assumption (asked, unasked (reply.WalkMemory 0), meets_none x.script z (λ k e. absurd (cc)) (λ k e. none-some k e)));
  }

  did_answer : (answer : WalkAnswer) → BalanceGives x walk_of answer s t → node < x.script.nodes → Stepping x by Command_of (unfound (walk_reply answer)) s t
  did_answer (answered.Walked freed) g there = whole freed g there
  did_answer (answered.Offline entry) g there = absurd g
  did_answer (answered.Memory freed) (inl none) there = subst (λ n. Stepping x by Command_of (unfound (reply.WalkMemory n)) s t) (sym none.0) (nothing_done none.1)
  did_answer (answered.Memory freed) (inr g) there = cut freed g there

  pub balance_did : (a : Answered) → node < x.script.nodes → Balances x by node priority nofs a s t → Stepping x by Command_of a s t
  balance_did a there g = subst (λ (z : Answered). Stepping x by Command_of z s t) (sym g.told) (did_answer g.answer g.balanced there)
