-- SPDX-License-Identifier: GPL-2.0-only
use Rattle.shr_list.proofs.Common.{◌≡◌, take, key_at, AreNewNames}
use Rattle.shr_list.proofs.queue.Queue.holds_any.Given as goal

abbrev pub invariant-loop-met : goal.invariant-loop-met
invariant-loop-met l = record {
  at : l.at ≡ key_at l.met l.other.nodes;
  so_far : AreNewNames l.self.nodes (take l.met l.other.nodes);
}
