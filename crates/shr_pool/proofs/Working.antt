-- SPDX-License-Identifier: GPL-2.0-only
-- What was popped of the jobs, once a mark was.
use Rattle.shr_pool.proofs.Common.{◌≡◌, ℕ, zero, suc, ◌+◌, ◌<◌, ◌≤◌, List, [], ◌∷◌, ◌++◌, map, sym, refl, ap, ◌∙◌, arith, replicate, some-injective, get_elem?, total, total-append, SweepItem, Walk, End, SweepJob, PassView, ends, is_end, table_jobs, queue_line, most_helpers, ArePopped, AreWorked, of_job}

abbrev rest : List SweepItem → List SweepItem
rest [] = []
rest (x ∷ xs) = xs

module _ (h : SweepJob → ℕ) where
  -- marks weigh nothing
  marks_none : (n : ℕ) → total (of_job h) (replicate n End) ≡ 0
  marks_none zero = refl
  marks_none (suc n) = omega (arith, marks_none n)

  -- jobs weigh what they weigh
  jobs_weigh : (js : List SweepJob) → total (of_job h) (map Walk js) ≡ total h js
  jobs_weigh [] = refl
  jobs_weigh (j ∷ js) = ap (λ n. h j + n) (jobs_weigh js)

  -- a line of jobs and marks weighs what its jobs weigh
  pub line_weighs : (nodes groups : ℕ) → total (of_job h) (queue_line nodes groups) ≡ total h (table_jobs nodes groups)
  line_weighs nodes groups = omega (arith, total-append (of_job h) (map Walk (table_jobs nodes groups)) (replicate most_helpers End), marks_none most_helpers, jobs_weigh (table_jobs nodes groups))

  -- once a mark was popped, all jobs were
  all_gone : (js : List SweepJob) (n : ℕ) (gone left : List SweepItem) → map Walk js ++ replicate n End ≡ gone ++ left → 0 < ends gone → total (of_job h) gone ≡ total h js
  all_gone [] n gone left e some_mark = omega (arith, total-append (of_job h) gone left, marks_none n, ap (total (of_job h)) e)
  all_gone (j ∷ js) n [] left e some_mark = absurd (omega (arith, some_mark))
  all_gone (j ∷ js) n (x ∷ gone) left e some_mark = let first : Walk j ≡ x = some-injective (Walk j) x (ap (λ (l : List SweepItem). get_elem? l 0) e) in
      let more : map Walk js ++ replicate n End ≡ gone ++ left = ap rest e in
      omega (arith, ap (of_job h) first, all_gone js n gone left more (omega (arith, some_mark, ap is_end first)))

  -- and before, no more than there are
  at_most : (js : List SweepJob) (n : ℕ) (gone left : List SweepItem) → map Walk js ++ replicate n End ≡ gone ++ left → total (of_job h) gone ≤ total h js
  at_most js n gone left e = omega (arith, total-append (of_job h) gone left, ap (total (of_job h)) e, total-append (of_job h) (map Walk js) (replicate n End), marks_none n, jobs_weigh js)

pub worked : (nodes groups : ℕ) (v : PassView) → v.pushed ≡ queue_line nodes groups → ArePopped v → AreWorked nodes groups v
worked nodes groups v full o = let line = sym full ∙ o.line in record {
  at_most = λ h. omega (arith, at_most h (table_jobs nodes groups) most_helpers o.gone o.left line, o.same (of_job h));
  all = λ mark h. omega (arith, all_gone h (table_jobs nodes groups) most_helpers o.gone o.left line (omega (arith, mark, o.same is_end)), o.same (of_job h));
}
