-- SPDX-License-Identifier: GPL-2.0-only
-- The jobs of a sweep, the rule of its queue and what came of the jobs, at known values.
use Rattle.shr_pool.proofs.Common.{arith, ap, ◌∙◌, length-append, ◌≡◌, [], ◌∷◌, length, refl, replicate, Walk, End, PassView, job_at, table_jobs, queue_line, ends, most_helpers, IsPopped, IsFaced, IsHelper, filling, IsQueued, first_pass_view, new_pass_view, with_pop, joined_pass_view, split_pass_view, marks_for, ArePopped, AreWorked, AreEachOnce, IsTableJob, only_job, sweep_job, HasPoppedWithin, IsFilling, times_popped}
use Rattle.shr_pool.proofs.Keeping.{begins}
use Rattle.shr_pool.proofs.Working.{worked}
use Rattle.shr_pool.proofs.Once.{each_once}

-- two nodes and three groups: node 0 first, and on each node the root first
jobs_in_order : table_jobs 2 3 ≡ sweep_job 0 0 ∷ sweep_job 1 0 ∷ sweep_job 2 0 ∷ sweep_job 0 1 ∷ sweep_job 1 1 ∷ sweep_job 2 1 ∷ []
jobs_in_order = refl

last_job : job_at 3 5 ≡ sweep_job 2 1
last_job = refl

-- behind six jobs stand 64 marks
line_is_long : length (queue_line 2 3) ≡ 70
line_is_long = refl

marks_pushed : ends (queue_line 2 3) ≡ most_helpers
marks_pushed = refl

-- a queue in which nothing was pushed and nothing stands is in order, and one in which something stands isn't
new_in_order : IsQueued [] (first_pass_view ∷ [])
new_in_order = begins

stray_item : IsQueued (End ∷ []) (first_pass_view ∷ []) → ⊥
stray_item q = absurd (omega (arith, ap length (q.told 0 first_pass_view refl refl ∙ q.line), length-append q.gone (End ∷ [])))

-- a helper without its mark doesn't find the queue empty
finds_a_mark : IsFaced (new_pass_view (filling (queue_line 1 2))) (End ∷ [])
finds_a_mark marked e = absurd (omega (arith, ap length e))

finds_nothing : IsFaced (new_pass_view (filling (queue_line 1 2))) [] → ⊥
finds_nothing f = f (omega arith) refl

-- a helper that popped a job and its mark
abbrev helper : PassView
helper = with_pop (with_pop (new_pass_view (filling (queue_line 1 2))) (Walk (sweep_job 0 0))) End

-- one that popped the other job
abbrev other : PassView
other = with_pop (new_pass_view (filling (queue_line 1 2))) (Walk (sweep_job 1 0))

first_pushes : IsFilling (filling (queue_line 1 2))
first_pushes = record { first = refl; here = refl; alone = refl; none = refl }

-- nobody pushes once a pass was handed out
helped_pushes_no_more : IsFilling (split_pass_view (filling [])) → ⊥
helped_pushes_no_more f = absurd (omega (arith, f.alone))

handed_out : IsHelper helper
handed_out = refl

one_mark_each : ends helper.popped ≡ marks_for helper.standing
one_mark_each = refl

popped_within : IsPopped (with_pop (new_pass_view (filling (queue_line 1 2))) (Walk (sweep_job 0 0))) End helper
popped_within = record { view = refl; within = λ h. omega arith }

-- a pop of one job isn't told as that of another
popped_another : IsPopped (new_pass_view (filling (queue_line 1 2))) (Walk (sweep_job 0 0)) other → ⊥
popped_another p = absurd (omega (arith, ap (times_popped (sweep_job 1 0)) p.view))

-- the two joined: each job once
abbrev both : PassView
both = joined_pass_view (joined_pass_view (filling (queue_line 1 2)) helper) other

all_popped : ArePopped both
all_popped = record {
  gone = Walk (sweep_job 0 0) ∷ Walk (sweep_job 1 0) ∷ End ∷ [];
  left = replicate 63 End;
  line = refl;
  same = λ h. omega arith;
}

all_worked : AreWorked 1 2 both
all_worked = worked 1 2 both refl all_popped

all_once : AreEachOnce 1 2 both
all_once = each_once 1 2 both all_worked

first_once : times_popped (sweep_job 0 0) both ≡ 1
first_once = refl

second_once : times_popped (sweep_job 1 0) both ≡ 1
second_once = refl

no_third : times_popped (sweep_job 2 0) both ≡ 0
no_third = refl

inside : IsTableJob 1 2 (sweep_job 1 0)
inside = record { node = omega arith; group = omega arith }

outside : IsTableJob 1 2 (sweep_job 2 0) → ⊥
outside t = absurd (omega (arith, t.group))

-- a job that was popped twice is refused, by its weight and by its number
abbrev twice : PassView
twice = joined_pass_view (joined_pass_view (filling (queue_line 1 2)) other) other

twice_is_no_work : AreWorked 1 2 twice → ⊥
twice_is_no_work w = absurd (omega (arith, w.at_most (only_job (sweep_job 1 0))))

twice_is_not_once : AreEachOnce 1 2 twice → ⊥
twice_is_not_once o = absurd (omega (arith, o.once (sweep_job 1 0)))

-- a job that was dropped behind a mark is refused
dropped_is_not_once : AreEachOnce 1 2 (joined_pass_view (filling (queue_line 1 2)) helper) → ⊥
dropped_is_not_once o = absurd (omega (arith, o.all (omega arith) (sweep_job 1 0) inside))

-- where no mark was popped a job may be left
left_is_fine : times_popped (sweep_job 0 0) (joined_pass_view (filling (queue_line 1 2)) other) ≡ 0
left_is_fine = refl

-- a pass of two pops where one item was pushed has popped more than that
more_than_pushed : HasPoppedWithin (with_pop (with_pop (new_pass_view (filling (End ∷ []))) End) End) → ⊥
more_than_pushed w = absurd (omega (arith, w (λ _. 1)))

as_many_as_pushed : HasPoppedWithin (with_pop (new_pass_view (filling (End ∷ []))) End)
as_many_as_pushed h = omega arith
