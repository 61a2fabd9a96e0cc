-- SPDX-License-Identifier: GPL-2.0-only
use Rattle.shr_walk.proofs.Common.{◌≡◌, ◌*◌, ◌^◌, ◌≤◌, length, IsSame, walk_of, all_groups}
use Rattle.shr_walk.proofs.Balancing.{IsBalancedTo}
use Rattle.shr_walk.proofs.balance.balance.Given as goal

abbrev pub invariant-loop-group : goal.invariant-loop-group
invariant-loop-group g l = record {
  groups : l.groups ≡ all_groups l.fn.worker.shared;
  within : l.group-index ≤ length l.groups;
  few : l.freed ≤ 2 ^ 53 * l.group-index;
  balanced : IsBalancedTo l.fn.worker.shared (walk_of l.fn.worker 0 l.fn.node l.fn.priority l.fn.nofs) l.group-index l.freed l.fn.worker.state l.worker.state;
  same : IsSame l.fn.worker l.worker;
}
