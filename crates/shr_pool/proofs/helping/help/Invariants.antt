-- SPDX-License-Identifier: GPL-2.0-only
use Rattle.std.proofs.Common.{◌≡◌, ◌*◌, ◌^◌, ◌≤◌}
use Rattle.shr_pool.specs.Passes as passes
use Rattle.shr_walk.specs.Acting.{IsSame}
use Rattle.shr_pool.proofs.Turning.{HasHelped}
use Rattle.shr_pool.proofs.helping.help.Given as goal

abbrev pub invariant-loop-turn : goal.invariant-loop-turn
invariant-loop-turn g l = record {
  pass : passes.IsJobPass l.queue l.pass;
  helped : HasHelped l.fn.worker.shared l.fn.worker.by l.priority l.nofs l.jobs l.freed (passes.pass_view l.fn.pass) (passes.pass_view l.pass) l.fn.worker.state l.worker.state;
  few : l.freed ≤ 2 ^ 53 * l.jobs;
  same : IsSame l.fn.worker l.worker;
  queue : l.queue ≡ l.fn.queue;
}
