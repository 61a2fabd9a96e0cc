-- SPDX-License-Identifier: GPL-2.0-only
use Rattle.shr_walk.proofs.ChargingCommon.{List, IsSame, Visit, WalksAll}
use Rattle.shr_walk.proofs.ChargeRanging.{jobs_to}
use Rattle.shr_walk.proofs.rounds.walk_round.Given as goal

abbrev pub invariant-loop-node : goal.invariant-loop-node
invariant-loop-node g l = record {
  walked : (walks : List Visit) × WalksAll l.fn.worker.shared l.fn.worker.by (jobs_to l.fn.worker.shared l.priority l.group l.node) walks l.fn.worker.state l.worker.state;
  same : IsSame l.fn.worker l.worker;
}
