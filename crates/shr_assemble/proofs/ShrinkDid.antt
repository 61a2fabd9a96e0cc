-- SPDX-License-Identifier: GPL-2.0-only
-- A `shrink` did what the report asks.
use Rattle.shr_assemble.proofs.Common.{◌≡◌, ℕ, ◌<◌, inl, inr, ⊎_elim, Bool, List, [], ◌∷◌, length, map, take, sym, refl, ap, subst, ◌∙◌, arith, true, false, slice_get, Option, Some, ◌||◌, same_Some, none-some, Serial, Answered, Command, Shrink, WalkAnswer, WalkRecord, IsPrefixOf, Job, job, job_of, is_cut, parents_of, WorkerState, Work, Shared, next_walk, unfound, walk_reply, KnowsOnline, IsAmong, shrink_reply, reply_of, Shrinks, Step, DidJobs, MayBeOffline, ◌⊎◌, IsCausedBy}
use Rattle.shr_assemble.proofs.QuietSteps.{meets_none}
use Rattle.shr_base.specs.declared.replies.Reply.TheVariants as reply
use Rattle.shr_base.specs.declared.walks.WalkAnswer.TheVariants as answered
use Rattle.shr_charge.specs.Views as charge
use Rattle.shr_charge.specs.declared.answers.GroupState.TheVariants as state
use Rattle.shr_assemble.proofs.QuietTenant.{brings_of}
use Rattle.shr_assemble.proofs.WalkingWell.{IsTableOf}
use Rattle.shr_assemble.proofs.WalkingGives.{one_online, IsNoted, Gave, gave}
use Rattle.shr_assemble.proofs.WalkingSteps.{Walked, step_of}
use Rattle.shr_assemble.proofs.WalkingDid.{Stepping, walks_did}
use Rattle.shr_assemble.proofs.WalkingChain.{FrontHad, front_had, front_pairs, one_front, any_cut}

module _ (x : Shared) (table : IsTableOf x) (by : Serial) (group node priority : ℕ) (nofs : Bool) (s t : WorkerState) where
  same_jobs : (answer : WalkAnswer) (ws : List WalkRecord) → IsNoted (next_walk by s group node priority nofs) answer ws → map job_of ws ≡ job group node priority nofs ∷ []
  same_jobs answer ws n = ap (map job_of) n.walks_are ∙ ap (λ (j : Job). j ∷ []) n.job_is

  told_one : (answer : WalkAnswer) (ws : List WalkRecord) → IsNoted (next_walk by s group node priority nofs) answer ws → reply_of answer ≡ shrink_reply ws
  told_one answer ws n = sym (ap shrink_reply n.walks_are ∙ ap reply_of n.answer_is)

  own_prefix : (ws : List WalkRecord) (j : Job) → map job_of ws ≡ j ∷ [] → IsPrefixOf (map job_of ws) (j ∷ [])
  own_prefix ws j e = subst (λ (l : List Job). take (length l) (j ∷ []) ≡ l) (sym e) refl

  abbrev pub Command_of : Option Command
  Command_of = Some (Shrink group node priority nofs)

  offline_word : (entry : ℕ) (w : Work) → Walked x.script by Command_of (unfound (reply.Offline entry)) s t w → IsNoted (next_walk by s group node priority nofs) (answered.Offline entry) w.walks → IsAmong (record { group = group; state = state.Offline entry }) w.words
  offline_word entry w walked n = let d = walked.each 0 n.noted (ap (λ (l : List WalkRecord). slice_get l 0) n.walks_are) in
      subst (λ g. IsAmong {A = charge.LoadedState} (record { group = g; state = state.Offline entry }) w.words) (ap (λ (j : Job). j.group) n.job_is) (d.word entry n.answer_is)

  did_answer : (answer : WalkAnswer) → Gave x (next_walk by s group node priority nofs) Command_of (unfound (walk_reply answer)) answer s t → ((freed : ℕ) → answer ≡ answered.Walked freed → 0 < group → KnowsOnline s.tree group)
      → Stepping x by Command_of (unfound (walk_reply answer)) s t
  did_answer (answered.Walked freed) g knew = record {
    work = g.work;
    does = brings_of g.walked.does;
    did = walks_did x table by Command_of (reply.Walked freed) s t g.work g.walked g.freed g.born g.charges g.uncharges (⊎_elim (λ none. absurd (let e = none.1 in cc)) (λ n.
        let z : Step = step_of x.script by Command_of (unfound (reply.Walked freed)) s t g.work in
        let asked : DidJobs x.script z (Shrink group node priority nofs) = record { rounds = []; refused = refl; made = same_jobs (answered.Walked freed) g.work.walks n; told = told_one (answered.Walked freed) g.work.walks n; cut = front_pairs g.work.walks (one_front g.work.walks n.noted n.walks_are); cut_told = λ e. absurd (let f : false ≡ true = sym (ap any_cut n.walks_are ∙ ap (λ (z : WalkAnswer). is_cut z || false) n.answer_is) ∙ e in cc) } in
        let online : (k : ℕ) → Some group ≡ Some k → 0 < k → MayBeOffline (reply.Walked freed) ⊎ KnowsOnline s.tree k = λ k e lt. let same = same_Some group k e in inr (subst (KnowsOnline s.tree) same (knew freed refl (omega (arith, lt, same)))) in
        assumption (asked, online, meets_none x.script z (λ k e. absurd (cc)) (λ k e. none-some k e))) g.told);
  }
  did_answer (answered.Offline entry) g knew = record {
    work = g.work;
    does = brings_of g.walked.does;
    did = walks_did x table by Command_of (reply.Offline entry) s t g.work g.walked g.freed g.born g.charges g.uncharges (⊎_elim (λ none. absurd (let e = none.1 in cc)) (λ n.
        let z : Step = step_of x.script by Command_of (unfound (reply.Offline entry)) s t g.work in
        let asked : DidJobs x.script z (Shrink group node priority nofs) = record { rounds = []; refused = refl; made = same_jobs (answered.Offline entry) g.work.walks n; told = told_one (answered.Offline entry) g.work.walks n; cut = front_pairs g.work.walks (one_front g.work.walks n.noted n.walks_are); cut_told = λ e. absurd (let f : false ≡ true = sym (ap any_cut n.walks_are ∙ ap (λ (z : WalkAnswer). is_cut z || false) n.answer_is) ∙ e in cc) } in
        let online : (k : ℕ) → Some group ≡ Some k → 0 < k → MayBeOffline (reply.Offline entry) ⊎ KnowsOnline s.tree k = λ k e lt. inl tt in
        let cause : IsCausedBy x.script z (reply.Offline entry) = record { group = group; met = refl; told = inl (offline_word entry g.work g.walked n) } in
        assumption (asked, online, meets_none x.script z (λ k e. absurd (cc)) (λ k e. none-some k e), cause)) g.told);
  }
  did_answer (answered.Memory freed) g knew = record {
    work = g.work;
    does = brings_of g.walked.does;
    did = walks_did x table by Command_of (reply.WalkMemory freed) s t g.work g.walked g.freed g.born g.charges g.uncharges (
        let z : Step = step_of x.script by Command_of (unfound (reply.WalkMemory freed)) s t g.work in
        let asked : DidJobs x.script z (Shrink group node priority nofs) = record { rounds = []; refused = refl; made = ⊎_elim (λ none. subst (λ (l : List WalkRecord). IsPrefixOf (map job_of l) (job group node priority nofs ∷ [])) (sym none.0) refl) (λ n. own_prefix g.work.walks (job group node priority nofs) (same_jobs (answered.Memory freed) g.work.walks n)) g.told; told = ⊎_elim (λ none. let is : freed ≡ 0 = let e = none.1 in cc in ap reply.WalkMemory is ∙ ap shrink_reply (sym none.0)) (λ n. told_one (answered.Memory freed) g.work.walks n) g.told; cut = front_pairs g.work.walks (⊎_elim (λ none. subst FrontHad (sym none.0) (front_had [] refl)) (λ n. one_front g.work.walks n.noted n.walks_are) g.told); cut_told = λ e. tt } in
        let online : (k : ℕ) → Some group ≡ Some k → 0 < k → MayBeOffline (reply.WalkMemory freed) ⊎ KnowsOnline s.tree k = λ k e lt. inl tt in
        assumption (asked, online, meets_none x.script z (λ k e. absurd (cc)) (λ k e. none-some k e)));
  }

  pub shrink_did : (a : Answered) → node < x.script.nodes → group < length (parents_of x.script) → Shrinks x by group node priority nofs a s t → Stepping x by Command_of a s t
  shrink_did a there inside g = let walk = next_walk by s group node priority nofs in subst (λ (z : Answered). Stepping x by Command_of z s t) (sym g.told)
      (did_answer g.answer (gave x table walk Command_of (unfound (walk_reply g.answer)) s t refl there inside g.answer g.walked) (one_online x walk g.answer s t g.walked))
