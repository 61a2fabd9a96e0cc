-- SPDX-License-Identifier: GPL-2.0-only
-- What a worker's part of the sweep did, and what each command did, put together.
use Rattle.shr_assemble.proofs.Common.{◌≡◌, ℕ, ◌<◌, Bool, List, [], ◌∷◌, ◌++◌, length, map, sym, refl, ap, subst, ◌∙◌, sum, Some, None, AllByRecursion, append-nil, map-append, length-map, none-some, Serial, Target, Answered, Reply, Sweep, WalkAnswer, WalkRecord, Job, job_of, SweepItem, End, SweepJob, Visit, job_in, VisitHadMemory, AreVisited, parents_of, IsSwept, HadMemory, WorkerState, Shared, CrewState, unfound, Did, HasHelped, job_walked, IsSweepWalk, sweep_reply, slice_get, Command, Put, On, Get, Del, SetPin, Shrink, Balance, Offline, MkGroup, Register, Unregister, Isolate, Release, Grab, Script, Isolation, IsCommandWithin, IsIsolationWithin, content_of, isolations_told, DeedGives, isolate_there, Step, DidSweep, MayBeOffline, ◌⊎◌, KnowsOnline}
use Rattle.shr_base.specs.declared.replies.Reply.TheVariants as reply
use Rattle.shr_pool.specs.declared.items.SweepItem.TheVariants.{Walk}
use Rattle.shr_pool.specs.declared.view.PassView.{PassView}
use Rattle.shr_pool.specs.declared.answers.SweepAnswer.{SweepAnswer}
use Rattle.shr_pool.specs.declared.answers.SweepAnswer.TheVariants as sweep
use Rattle.shr_pool.specs.Helping.{HelpGives, HasSwept, HasStopped, walk_of_job, visit_freed}
use Rattle.shr_walk.specs.Balances as balances
use Rattle.shr_assemble.proofs.QuietTenant.{brings_of, group_in}
use Rattle.shr_assemble.proofs.Rows.{SweptPart, IsThereItem, Worked, DidEach, IsFit}
use Rattle.shr_assemble.proofs.WalkingChain.{GaveAll, IsThereJob, AllNoted, gave_all, visited_one, all_had, all_cut}
use Rattle.shr_assemble.proofs.WalkingCharges.{rec_of}
use Rattle.shr_assemble.proofs.WalkingDid.{walks_did, Stepping}
use Rattle.shr_assemble.proofs.WalkingSteps.{step_of}
use Rattle.shr_assemble.proofs.WalkingWell.{IsTableOf}
use Rattle.shr_assemble.proofs.BalanceDid.{balance_did}
use Rattle.shr_assemble.proofs.DelDid.{del_did}
use Rattle.shr_assemble.proofs.GetDid.{get_did}
use Rattle.shr_assemble.proofs.IsolateDid.{isolate_done}
use Rattle.shr_assemble.proofs.MkGroupDid.{mkgroup_did}
use Rattle.shr_assemble.proofs.HandedOver.{offline_did}
use Rattle.shr_assemble.proofs.PinDid.{pin_did}
use Rattle.shr_assemble.proofs.PutDid.{put_did}
use Rattle.shr_assemble.proofs.PoolDid.{release_did, grab_did}
use Rattle.shr_assemble.proofs.QuietSteps.{HasDid, meets_none}
use Rattle.shr_assemble.proofs.RegisterDid.{register_did}
use Rattle.shr_assemble.proofs.ShrinkDid.{shrink_did}
use Rattle.shr_assemble.proofs.UnregisterDid.{unregister_did}

abbrev answer_in : Visit → WalkAnswer
answer_in v = v.answer

had_all : (vs : List Visit) → AllByRecursion VisitHadMemory vs → AllByRecursion HadMemory (map answer_in vs)
had_all [] h = tt
had_all (v ∷ vs) h = (h.0, had_all vs h.1)

same_freed : (vs : List Visit) → map visit_freed vs ≡ map balances.walk_freed (map answer_in vs)
same_freed [] = refl
same_freed (v ∷ vs) = ap (λ l. balances.walk_freed v.answer ∷ l) (same_freed vs)

module _ (x : Shared) (priority : ℕ) (nofs : Bool) where
  abbrev walk_as : SweepJob → Job
  walk_as j = walk_of_job priority nofs j

  -- the jobs that were popped are there
  jobs_there : (jobs : List SweepJob) (rest : List SweepItem) → AllByRecursion (IsThereItem x.script) (map Walk jobs ++ rest) → AllByRecursion (IsThereJob x) (map walk_as jobs)
  jobs_there [] rest h = tt
  jobs_there (j ∷ jobs) rest h = (record { node = h.0.0; group = h.0.1 }, jobs_there jobs rest h.1)

  -- the records of walks are of the first of these jobs
  first_jobs : (ws : List WalkRecord) (jobs : List SweepJob) (rest : List Job) → map job_of ws ++ rest ≡ map walk_as jobs → (left : List SweepJob) × (jobs ≡ map job_walked ws ++ left)
  first_jobs [] jobs rest e = (jobs, refl)
  first_jobs (w ∷ ws) [] rest e = absurd (cc)
  first_jobs (w ∷ ws) (j ∷ jobs) rest e =
      let here : job_of w ≡ walk_as j = cc in
      let later : map job_of ws ++ rest ≡ map walk_as jobs = cc in
      let more = first_jobs ws jobs rest later in
      (more.0, λ i. record { group = ap (λ (k : Job). k.group) (sym here) i; node = ap (λ (k : Job). k.node) (sym here) i } ∷ more.1 i)

  all_jobs : (ws : List WalkRecord) (jobs : List SweepJob) → map job_of ws ≡ map walk_as jobs → jobs ≡ map job_walked ws
  all_jobs [] [] e = refl
  all_jobs [] (j ∷ jobs) e = absurd (cc)
  all_jobs (w ∷ ws) [] e = absurd (cc)
  all_jobs (w ∷ ws) (j ∷ jobs) e =
      let here : job_of w ≡ walk_as j = cc in
      let later : map job_of ws ≡ map walk_as jobs = cc in
      λ i. record { group = ap (λ (k : Job). k.group) (sym here) i; node = ap (λ (k : Job). k.node) (sym here) i } ∷ all_jobs ws jobs later i

  -- they are walks of the sweep
  walks_right : (z : Sweep) → z.priority ≡ priority → z.nofs ≡ nofs → (ws : List WalkRecord) (jobs : List SweepJob) (rest : List Job) → map job_of ws ++ rest ≡ map walk_as jobs → AllByRecursion (IsThereJob x) (map walk_as jobs)
      → AllByRecursion (IsSweepWalk x.script z) ws
  walks_right z p n [] jobs rest e there = tt
  walks_right z p n (w ∷ ws) [] rest e there = absurd (cc)
  walks_right z p n (w ∷ ws) (j ∷ jobs) rest e there =
      let here : job_of w ≡ walk_as j = cc in
      let later : map job_of ws ++ rest ≡ map walk_as jobs = cc in (
        record {
          group = subst (λ (g : ℕ). g < length (parents_of x.script)) (ap (λ (k : Job). k.group) (sym here)) there.0.group;
          node = subst (λ (g : ℕ). g < x.script.nodes) (ap (λ (k : Job). k.node) (sym here)) there.0.node;
          priority = ap (λ (k : Job). k.priority) here ∙ sym p;
          nofs = ap (λ (k : Job). k.nofs) here ∙ sym n;
        },
        walks_right z p n ws jobs rest later there.1,
      )

module _ (x : Shared) (table : IsTableOf x) (z : Sweep) (asked : x.script.sweep ≡ Some z) (by : Serial) (s t : WorkerState) where
  abbrev walk_for : SweepJob → Job
  walk_for j = walk_of_job z.priority z.nofs j

  -- what the walks gave
  gave : (r : Reply) (walks : List Visit) → AreVisited x by walks s t → AllByRecursion (IsThereJob x) (map job_in walks) → GaveAll x by None (unfound r) (map job_in walks) (map answer_in walks) s t
  gave r walks visited there =
      let one = visited_one x by walks s t visited in
      gave_all x table by None (unfound r) (map job_in walks) (map answer_in walks) s t one there

  -- a sweep asks for no group
  unasked : (r : Reply) (g : ℕ) → None ≡ Some g → 0 < g → MayBeOffline r ⊎ KnowsOnline s.tree g
  unasked r g e above = absurd (none-some g e)

  -- a step that made the walks of a sweep and nothing else
  did_swept : (count freed : ℕ) (jobs : List Job) (answers : List WalkAnswer) (all : GaveAll x by None (unfound (reply.Swept count freed)) jobs answers s t) → IsSwept x.script z all.work.walks (unfound (reply.Swept count freed))
      → Did x.script (step_of x.script by None (unfound (reply.Swept count freed)) s t all.work)
  did_swept count freed jobs answers all swept = walks_did x table by None (reply.Swept count freed) s t all.work all.walked all.freed all.born all.charges all.uncharges (
      let y : Step = step_of x.script by None (unfound (reply.Swept count freed)) s t all.work in
      let due : DidSweep x.script y = record { sweep = z; asked = asked; swept = swept } in
      assumption (due, unasked (reply.Swept count freed), meets_none x.script y (λ g e. absurd (cc)) (λ g e. none-some g e)))

  did_stopped : (freed : ℕ) (jobs : List Job) (answers : List WalkAnswer) (all : GaveAll x by None (unfound (reply.WalkMemory freed)) jobs answers s t) → IsSwept x.script z all.work.walks (unfound (reply.WalkMemory freed))
      → Did x.script (step_of x.script by None (unfound (reply.WalkMemory freed)) s t all.work)
  did_stopped freed jobs answers all swept = walks_did x table by None (reply.WalkMemory freed) s t all.work all.walked all.freed all.born all.charges all.uncharges (
      let y : Step = step_of x.script by None (unfound (reply.WalkMemory freed)) s t all.work in
      let due : DidSweep x.script y = record { sweep = z; asked = asked; swept = swept } in
      assumption (due, unasked (reply.WalkMemory freed), meets_none x.script y (λ g e. absurd (cc)) (λ g e. none-some g e)))

  -- no job was left
  swept_part : (count freed : ℕ) (v w : PassView) (popped : List SweepItem) → v.popped ≡ [] → w.popped ≡ popped → HasSwept x by z.priority z.nofs count freed v w s t → AllByRecursion (IsThereItem x.script) popped
      → SweptPart x.script by (unfound (reply.Swept count freed)) popped s t
  swept_part count freed v w popped fresh ended h there =
      let pops : popped ≡ map Walk h.jobs ++ End ∷ [] = sym ended ∙ (ap (λ (y : PassView). y.popped) h.popped ∙ ap (λ (l : List SweepItem). l ++ (map Walk h.jobs ++ End ∷ [])) fresh) in
      let here : AllByRecursion (IsThereJob x) (map walk_for h.jobs) = jobs_there x z.priority z.nofs h.jobs (End ∷ []) (subst (AllByRecursion (IsThereItem x.script)) pops there) in
      let all = gave (reply.Swept count freed) h.walks h.walked.visited (subst (AllByRecursion (IsThereJob x)) (sym h.walked.all) here) in
      let had = all_had (map job_in h.walks) (map answer_in h.walks) all.work.walks all.noted (had_all h.walks (rec_of VisitHadMemory h.walks h.walked.had)) in
      let jobs : map job_of all.work.walks ≡ map walk_for h.jobs = had.jobs_are ∙ h.walked.all in
      let same : h.jobs ≡ map job_walked all.work.walks = all_jobs x z.priority z.nofs all.work.walks h.jobs jobs in
      let long : count ≡ length all.work.walks = h.counted ∙ (ap (λ (l : List SweepJob). length l) same ∙ length-map all.work.walks job_walked) in
      record {
        work = all.work;
        does = brings_of all.walked.does;
        did = did_swept count freed (map job_in h.walks) (map answer_in h.walks) all (record {
          alone = refl;
          kind = tt;
          walks_are = walks_right x z.priority z.nofs z refl refl all.work.walks h.jobs [] (append-nil (map job_of all.work.walks) ∙ jobs) here;
          jobs = λ n f e. let is : count ≡ n = cc in sym is ∙ long;
          freed = h.sum_freed ∙ (ap sum (same_freed h.walks) ∙ sym had.sum_told);
        });
        pops = record { rest = End ∷ []; first = pops ∙ ap (λ (l : List SweepJob). map Walk l ++ End ∷ []) same; all = λ out. refl };
      }

  -- the last walk lacked memory
  stopped_part : (freed : ℕ) (v w : PassView) (popped : List SweepItem) → v.popped ≡ [] → w.popped ≡ popped → HasStopped x by z.priority z.nofs freed v w s t → AllByRecursion (IsThereItem x.script) popped
      → SweptPart x.script by (unfound (reply.WalkMemory freed)) popped s t
  stopped_part freed v w popped fresh ended h there =
      let pops : popped ≡ map Walk h.jobs = sym ended ∙ (ap (λ (y : PassView). y.popped) h.popped ∙ ap (λ (l : List SweepItem). l ++ map Walk h.jobs) fresh) in
      let here : AllByRecursion (IsThereJob x) (map walk_for h.jobs) = jobs_there x z.priority z.nofs h.jobs [] (subst (AllByRecursion (IsThereItem x.script)) (pops ∙ sym (append-nil (map Walk h.jobs))) there) in
      let all = gave (reply.WalkMemory freed) h.walks h.visited (subst (AllByRecursion (IsThereJob x)) (sym h.each) here) in
      let answers : map answer_in h.walks ≡ map answer_in h.cut.front ++ h.cut.last.answer ∷ [] = ap (map answer_in) h.cut.whole ∙ map-append answer_in h.cut.front (h.cut.last ∷ []) in
      let cut = all_cut (map job_in h.walks) (map answer_in h.cut.front) h.cut.last.answer all.work.walks (subst (λ (l : List WalkAnswer). AllNoted (map job_in h.walks) l all.work.walks) answers all.noted)
      (had_all h.cut.front (rec_of VisitHadMemory h.cut.front h.cut.had)) h.cut.lacked in
      let jobs : map job_of all.work.walks ++ cut.begins.0 ≡ map walk_for h.jobs = sym cut.begins.1 ∙ h.each in
      let left = first_jobs x z.priority z.nofs all.work.walks h.jobs cut.begins.0 jobs in
      record {
        work = all.work;
        does = brings_of all.walked.does;
        did = did_stopped freed (map job_in h.walks) (map answer_in h.walks) all (record {
          alone = refl;
          kind = tt;
          walks_are = walks_right x z.priority z.nofs z refl refl all.work.walks h.jobs cut.begins.0 jobs here;
          jobs = λ n f e. absurd (cc);
          freed = h.sum_freed ∙ (ap sum (same_freed h.walks) ∙ (ap (λ (l : List WalkAnswer). sum (map balances.walk_freed l)) answers ∙ sym cut.sum_told));
        });
        pops = record { rest = map Walk left.0; first = pops ∙ (ap (map Walk) left.1 ∙ map-append Walk (map job_walked all.work.walks) left.0); all = λ out. absurd out };
      }

-- what a helper gave tells what it did
pub sweep_did : (x : Shared) → IsTableOf x → (z : Sweep) (by : Serial) (told : List Answered) (popped : List SweepItem) (s t : CrewState) → x.script.sweep ≡ Some z → AllByRecursion (IsThereItem x.script) popped → HasHelped x z by told popped s t
    → (a : Answered) × (told ≡ a ∷ []) × SweptPart x.script by a popped s.seats t.seats
sweep_did x table z by told popped s t asked there h = (unfound (sweep_reply h.answer), h.told_is, by_answer h.answer h.gives) where
  by_answer : (a : SweepAnswer) → HelpGives x by z.priority z.nofs a h.pass h.ended s.seats t.seats → SweptPart x.script by (unfound (sweep_reply a)) popped s.seats t.seats
  by_answer (sweep.Swept count freed) g = swept_part x table z asked by s.seats t.seats count freed h.pass h.ended popped h.fresh h.popped_is g there
  by_answer (sweep.Memory freed) g = stopped_part x table z asked by s.seats t.seats freed h.pass h.ended popped h.fresh h.popped_is g there

-- a command whose answer tells of no isolation, and that recorded none
worked : (s : Script) (by : Serial) (c : Command) (a : Answered) (t u : CrewState) → isolations_told by c a ≡ [] → u.isolations ≡ t.isolations → u.seats.core.claims.held ≡ None → HasDid s by c a t.seats u.seats → Worked s by c a t u
worked s by c a t u none same free h = record {
  work = h.work;
  brings = h.does;
  did = h.did;
  recorded = same ∙ (sym (append-nil t.isolations) ∙ ap (λ (l : List Isolation). t.isolations ++ l) (sym none));
  by_law = λ i told. absurd (none-some i (ap (λ (l : List Isolation). slice_get l 0) (sym none ∙ told)));
  free = free;
}

walked : (x : Shared) (by : Serial) (c : Command) (a : Answered) (t u : CrewState) → isolations_told by c a ≡ [] → u.isolations ≡ t.isolations → u.seats.core.claims.held ≡ None → Stepping x by (Some c) a t.seats u.seats → Worked x.script by c a t u
walked x by c a t u none same free h = worked x.script by c a t u none same free (record { work = h.work; does = h.does; did = h.did })

isolated : (x : Shared) (table : IsTableOf x) (by : Serial) (to : Target) (budget : ℕ) (a : Answered) (t u : CrewState) → IsIsolationWithin (content_of x.script) to budget → DeedGives x by (Isolate to budget) a t u
    → Worked x.script by (Isolate to budget) a t u
isolated x table by to budget a t u within g =
    let h = isolate_done x table by to budget within a t.seats u.seats t.isolations u.isolations g.recorded in
    record { work = h.did.work; brings = h.did.does; did = h.did.did; recorded = h.recorded; by_law = h.by_law; free = g.free }

each_command : (x : Shared) → IsTableOf x → (by : Serial) (c : Command) (a : Answered) (t u : CrewState) → IsCommandWithin (content_of x.script) c → IsFit t.seats → DeedGives x by c a t u
    → Worked x.script by c a t u
each_command x table by (Put to key value) a t u within fit g = worked x.script by (Put to key value) a t u refl g.recorded g.free (put_did x table by to key value within.0 a t.seats u.seats fit.rising g.seats)
each_command x table by (On to key Get) a t u within fit g = worked x.script by (On to key Get) a t u refl g.recorded g.free (get_did x table by to key within a t.seats u.seats g.seats)
each_command x table by (On to key Del) a t u within fit g = worked x.script by (On to key Del) a t u refl g.recorded g.free (del_did x table by to key within a t.seats u.seats g.seats)
each_command x table by (On to key (SetPin pinned)) a t u within fit g = worked x.script by (On to key (SetPin pinned)) a t u refl g.recorded g.free (pin_did x table by to key pinned within a t.seats u.seats g.seats)
each_command x table by (Shrink group node priority nofs) a t u within fit g = walked x by (Shrink group node priority nofs) a t u refl g.recorded g.free (shrink_did x table by group node priority nofs t.seats u.seats a within.1.on_node (group_in x group within.0) g.seats)
each_command x table by (Balance node priority nofs) a t u within fit g = walked x by (Balance node priority nofs) a t u refl g.recorded g.free (balance_did x table by node priority nofs t.seats u.seats a within.on_node g.seats)
each_command x table by (Offline group) a t u within fit g = worked x.script by (Offline group) a t u refl g.recorded g.free (offline_did x table by group t.seats u.seats fit.home a g.seats)
each_command x table by (Register decl) a t u within fit g = worked x.script by (Register decl) a t u refl g.recorded g.free (register_did x table by decl a t.seats u.seats g.seats)
each_command x table by (Unregister decl) a t u within fit g = worked x.script by (Unregister decl) a t u refl g.recorded g.free (unregister_did x table by decl a t.seats u.seats g.seats)
each_command x table by (MkGroup group) a t u within fit g = worked x.script by (MkGroup group) a t u refl g.recorded g.free (mkgroup_did x table by group t.seats u.seats fit.home a g.seats)
each_command x table by (Release node pool n) a t u within fit g = worked x.script by (Release node pool n) a t u refl g.recorded g.free (release_did x by node pool n a t u g)
each_command x table by (Grab node pool) a t u within fit g = worked x.script by (Grab node pool) a t u refl g.recorded g.free (grab_did x by node pool a t u g)
each_command x table by (Isolate to budget) a t u within fit g = isolated x table by to budget a t u (isolate_there (content_of x.script) to budget within) g

pub did_each : (x : Shared) → IsTableOf x → DidEach x
did_each x table = record { command = each_command x table; sweep = sweep_did x table }
