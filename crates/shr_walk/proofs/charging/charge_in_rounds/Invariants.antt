-- SPDX-License-Identifier: GPL-2.0-only
use Rattle.shr_walk.proofs.ChargingCommon.{◌≤◌, depth_of, IsSame, RefusedThere}
use Rattle.shr_walk.proofs.Tried.{HasTried}
use Rattle.shr_walk.proofs.charging.charge_in_rounds.Given as goal

abbrev pub invariant-loop-priority : goal.invariant-loop-priority
invariant-loop-priority g l = record {
  tried : HasTried l.fn.worker.shared l.fn.worker.by l.group l.priority l.answer l.fn.worker.state l.worker.state;
  there : RefusedThere l.fn.worker.shared l.answer;
  room : depth_of l.fn.worker.shared.charge.shape.parents.items l.group ≤ l.worker.use_room;
  same : IsSame l.fn.worker l.worker;
}
