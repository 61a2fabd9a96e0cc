-- SPDX-License-Identifier: GPL-2.0-only
-- A helper's turns, one after another.
use Rattle.std.proofs.Common.{◌≡◌, ℕ, ◌+◌, ◌<◌, ◌≤◌, Bool, true, false, List, [], ◌∷◌, ◌++◌, length, map, sym, refl, ap, subst, ◌∙◌, ⊎_elim, arith, append_assoc, length-append}
use Rattle.std.specs.Prelude.{replicate, sum}
use Rattle.std.proofs.lemmas.List.{append-nil, map-append, length-map}
use Rattle.std.proofs.lemmas.List.Sums.{sum-map, sum_by-append, sum_by-cons}
use Rattle.std.proofs.lemmas.Nat.{mul-le}
use Rattle.shr_base.specs.declared.places.Serial.{Serial}
use Rattle.shr_model.specs.Walks.{Job}
use Rattle.shr_seats.specs.Weights.{total}
use Rattle.shr_seats.proofs.Weighing.{total-append}
use Rattle.shr_seats.specs.Shapes.{groups_in}
use Rattle.shr_core.specs.Seats.{shape_of}
use Rattle.shr_base.specs.declared.walks.WalkAnswer.{WalkAnswer}
use Rattle.shr_walk.specs.Balances.{walk_freed, lacked_memory}
use Rattle.shr_walk.specs.State.{WorkerState}
use Rattle.shr_walk.specs.declared.seats.Shared.{Shared}
use Rattle.shr_walk.specs.Rounds.{Visit, WalksAll, IsVisited, job_in}
use Rattle.shr_walk.proofs.VisitsMade.{all_more, none_walked, visited_more}
use Rattle.shr_pool.specs.Known.{HasPoppedWithin}
use Rattle.shr_pool.specs.Lines.{ends, is_end, of_job, queue_line, table_jobs, most_helpers}
use Rattle.shr_pool.specs.Rule.{with_pop}
use Rattle.shr_pool.specs.Worked.{IsTableJob, only_job}
use Rattle.shr_pool.specs.declared.items.SweepItem.{SweepItem}
use Rattle.shr_pool.specs.declared.items.SweepItem.TheVariants.{Walk, End}
use Rattle.shr_pool.specs.declared.items.SweepJob.{SweepJob}
use Rattle.shr_pool.specs.declared.view.PassView.{PassView}
use Rattle.shr_pool.proofs.Filling.{length_line}
use Rattle.shr_pool.proofs.Once.{agrees, is_table_job, not_in_table}
use Rattle.shr_pool.proofs.Weighing.{total_one}
use Rattle.shr_pool.proofs.Working.{line_weighs}
use Rattle.shr_pool.specs.Helping.{IsLineWithin, HasSwept, HasStopped, walk_of_job, with_pops, visit_freed}

-- ---- what was pushed

-- jobs are no marks
jobs_no_ends : (js : List SweepJob) → ends (map Walk js) ≡ 0
jobs_no_ends [] = refl
jobs_no_ends (j ∷ js) = omega (arith, jobs_no_ends js)

all_marks : ends (replicate most_helpers End) ≡ most_helpers
all_marks = refl

-- all marks were pushed
pub marked : (nodes groups : ℕ) → most_helpers ≤ ends (queue_line nodes groups)
marked nodes groups = omega (arith, total-append is_end (map Walk (table_jobs nodes groups)) (replicate most_helpers End), all_marks)

-- ---- the jobs so far

-- these jobs were popped and walked, and each walk had memory
pub record HasHelped (x : Shared) (by : Serial) (priority : ℕ) (nofs : Bool) (count freed : ℕ) (v w : PassView) (s t : WorkerState) : Type 0 where
  pub jobs : List SweepJob
  pub walks : List Visit
  pub popped : w ≡ with_pops v (map Walk jobs)
  pub walked : WalksAll x by (map (walk_of_job priority nofs) jobs) walks s t
  pub counted : count ≡ length jobs
  pub sum_freed : freed ≡ sum (map visit_freed walks)

freed_more : (vs : List Visit) (v : Visit) → sum (map visit_freed (vs ++ v ∷ [])) ≡ sum (map visit_freed vs) + visit_freed v
freed_more vs v = let all = sum-map visit_freed (vs ++ v ∷ []) in let both = sum_by-append visit_freed vs (v ∷ []) in let front = sum-map visit_freed vs in let one = sum_by-cons visit_freed v [] in omega (arith, all, both, front, one)

module _ (x : Shared) (by : Serial) (priority : ℕ) (nofs : Bool) where
  pub helped_none : (v : PassView) (s : WorkerState) → HasHelped x by priority nofs 0 0 v v s s
  helped_none v s = record { jobs = []; walks = []; popped = ap (λ (l : List SweepItem). record v { popped = l }) (sym (append-nil v.popped)); walked = none_walked x by s; counted = refl; sum_freed = refl }

  module _ (count freed : ℕ) (v w : PassView) (s t : WorkerState) (h : HasHelped x by priority nofs count freed v w s t) where
    -- the mark was popped
    pub helped_swept : (after : PassView) → after ≡ with_pop w End → HasSwept x by priority nofs count freed v after s t
    helped_swept after e = record {
      jobs = h.jobs;
      walks = h.walks;
      popped = e ∙ (ap (λ (y : PassView). with_pop y End) h.popped ∙ ap (λ (l : List SweepItem). record v { popped = l }) (append_assoc v.popped (map Walk h.jobs) (End ∷ [])));
      walked = h.walked;
      counted = h.counted;
      sum_freed = h.sum_freed;
    }

    -- no mark was popped so far
    pub helped_open : ends v.popped ≡ 0 → ends w.popped ≡ 0
    helped_open none = omega (arith, none, ap (λ (y : PassView). ends y.popped) h.popped, total-append is_end v.popped (map Walk h.jobs), jobs_no_ends h.jobs)

    module _ (j : SweepJob) (after : PassView) (e : after ≡ with_pop w (Walk j)) where
      popped_more : after ≡ with_pops v (map Walk (h.jobs ++ j ∷ []))
      popped_more = e ∙ (ap (λ (y : PassView). with_pop y (Walk j)) h.popped ∙ ap (λ (l : List SweepItem). record v { popped = l }) (append_assoc v.popped (map Walk h.jobs) (Walk j ∷ []) ∙ ap (λ (l : List SweepItem). v.popped ++ l) (sym (map-append Walk h.jobs (j ∷ [])))))

      module _ (a : WalkAnswer) (u : WorkerState) (one : IsVisited x by (record { job = walk_of_job priority nofs j; answer = a; after = u }) t) where
        abbrev visit : Visit
        visit = record { job = walk_of_job priority nofs j; answer = a; after = u }

        -- one job more was popped and walked
        pub helped_more : lacked_memory a ≡ false → HasHelped x by priority nofs (count + 1) (freed + walk_freed a) v after s u
        helped_more had = record {
          jobs = h.jobs ++ j ∷ [];
          walks = h.walks ++ visit ∷ [];
          popped = popped_more;
          walked = subst (λ (l : List Job). WalksAll x by l (h.walks ++ visit ∷ []) s u) (sym (map-append (walk_of_job priority nofs) h.jobs (j ∷ []))) (all_more x by (map (walk_of_job priority nofs) h.jobs) h.walks visit s t h.walked one had);
          counted = omega (arith, h.counted, length-append h.jobs (j ∷ []));
          sum_freed = ap (λ (m : ℕ). m + walk_freed a) h.sum_freed ∙ sym (freed_more h.walks visit);
        }

        -- the walk of one job more lacked memory
        pub helped_stopped : lacked_memory a ≡ true → HasStopped x by priority nofs (freed + walk_freed a) v after s u
        helped_stopped lacked = record {
          jobs = h.jobs ++ j ∷ [];
          walks = h.walks ++ visit ∷ [];
          popped = popped_more;
          visited = visited_more x by h.walks visit s t h.walked.visited one;
          each = map-append job_in h.walks (visit ∷ []) ∙ (ap (λ (l : List Job). l ++ walk_of_job priority nofs j ∷ []) h.walked.all ∙ sym (map-append (walk_of_job priority nofs) h.jobs (j ∷ [])));
          cut = record { front = h.walks; last = visit; whole = refl; had = h.walked.had; lacked = lacked };
          sum_freed = ap (λ (m : ℕ). m + walk_freed a) h.sum_freed ∙ sym (freed_more h.walks visit);
        }

    module _ (line : IsLineWithin x v) (j : SweepJob) (after : PassView) (e : after ≡ with_pop w (Walk j)) (within : HasPoppedWithin after) where
      -- what was pushed is known as before
      same_line : after.pushed ≡ queue_line line.nodes line.groups
      same_line = ap (λ (y : PassView). y.pushed) e ∙ (ap (λ (y : PassView). y.pushed) h.popped ∙ line.line)

      weighs : total (of_job (only_job j)) after.popped ≤ total (only_job j) (table_jobs line.nodes line.groups)
      weighs = omega (arith, within (of_job (only_job j)), ap (λ (l : List SweepItem). total (of_job (only_job j)) l) same_line, line_weighs (only_job j) line.nodes line.groups)

      here : 0 < total (of_job (only_job j)) after.popped
      here = omega (arith, ap (λ (y : PassView). total (of_job (only_job j)) y.popped) e, total-append (of_job (only_job j)) w.popped (Walk j ∷ []), agrees j j refl refl)

      -- a job that was popped is one of the groups and nodes that there are
      pub popped_within : (j.node < (shape_of x.core).nodes) × (j.group < groups_in (shape_of x.core))
      popped_within = ⊎_elim
          (λ (out : IsTableJob line.nodes line.groups j → ⊥). absurd (omega (arith, here, weighs, not_in_table line.nodes line.groups j out)))
          (λ (t : IsTableJob line.nodes line.groups j). (omega (arith, t.node, line.nodes_within), omega (arith, t.group, line.groups_within)))
          (is_table_job line.nodes line.groups j)

      -- no more jobs were popped than may be pushed
      pub popped_few : count < 1088
      popped_few = omega (
        arith,
        h.counted,
        within (λ _. 1),
        total_one after.popped,
        total_one after.pushed,
        ap (λ (y : PassView). length y.popped) e,
        length-append w.popped (Walk j ∷ []),
        ap (λ (y : PassView). length y.popped) h.popped,
        length-append v.popped (map Walk h.jobs),
        length-map h.jobs Walk,
        ap (λ (l : List SweepItem). length l) same_line,
        length_line line.nodes line.groups most_helpers,
        mul-le line.nodes line.groups 4 256 (omega (arith, line.nodes_within, x.core.limits)) (omega (arith, line.groups_within, x.core.limits)),
      )
