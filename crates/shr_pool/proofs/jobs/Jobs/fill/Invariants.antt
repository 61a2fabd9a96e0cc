-- SPDX-License-Identifier: GPL-2.0-only
use Rattle.shr_pool.proofs.Common.{◌≡◌, ◌++◌, map, replicate, range_with_len, Walk, End, job_at, table_jobs, filling}
use Rattle.crossbeam_queue.specs.Passes.{view, IsPassOf}
use Rattle.shr_pool.proofs.jobs.Jobs.fill.Given as goal

abbrev pub invariant-loop-i : goal.invariant-loop-i
invariant-loop-i g l = IsPassOf l.queue l.pass × (view l.pass ≡ filling (map Walk (map (job_at l.groups) (range_with_len 0 l.i))))

abbrev pub invariant-loop-mark : goal.invariant-loop-mark
invariant-loop-mark g l = IsPassOf l.queue l.pass × (view l.pass ≡ filling (map Walk (table_jobs l.nodes l.groups) ++ replicate l._mark End))
