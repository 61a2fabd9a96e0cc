-- SPDX-License-Identifier: GPL-2.0-only
use Rattle.shr_list.proofs.Common.{◌≡◌, take, key_at, Withdraws}
use Rattle.shr_list.proofs.queue.splicing.withdraw.Given as goal

abbrev pub invariant-loop-met : goal.invariant-loop-met
invariant-loop-met l = record {
  at : l.at ≡ key_at l.met l.links.nodes;
  so_far : Withdraws l.fn.names l.names (take l.met l.links.nodes);
}
