-- SPDX-License-Identifier: GPL-2.0-only
use Rattle.shr_walk.proofs.ChargingCommon.{◌≡◌, List, take, IsSame, jobs_on, Visit, WalksAll}
use Rattle.shr_walk.proofs.rounds.walk_node.Given as goal

abbrev pub invariant-loop-group : goal.invariant-loop-group
invariant-loop-group g l = record {
  groups : l.groups ≡ l.fn.groups;
  walked : (walks : List Visit) × WalksAll l.fn.worker.shared l.fn.worker.by (jobs_on l.node l.priority (take l.group-index l.groups)) walks l.fn.worker.state l.worker.state;
  same : IsSame l.fn.worker l.worker;
}
