-- SPDX-License-Identifier: GPL-2.0-only
use Rattle.shr_list.proofs.Common.{◌≡◌, ◌+◌, ◌≤◌, objects_of, key_at}
use Rattle.shr_list.proofs.Counting.{IsCounting}
use Rattle.shr_list.proofs.queue.Queue.count_freed.Given as goal

abbrev pub invariant-loop-met : goal.invariant-loop-met
invariant-loop-met l = record {
  at : l.at ≡ key_at l.met l.self-inside.links.nodes;
  counting : IsCounting l.policy l.budget l.met (objects_of l.self-inside.links.nodes) l.freed l.rotated;
  few : l.freed + l.rotated ≤ l.met;
}
