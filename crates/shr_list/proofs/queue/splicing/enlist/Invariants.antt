-- SPDX-License-Identifier: GPL-2.0-only
use Rattle.shr_list.proofs.Common.{◌≡◌, ◌++◌, take, key_at, IsIndexed}
use Rattle.shr_list.proofs.queue.splicing.enlist.Given as goal

abbrev pub invariant-loop-met : goal.invariant-loop-met
invariant-loop-met l = record {
  at : l.at ≡ key_at l.met l.other.nodes;
  so_far : IsIndexed l.names (l.links.nodes ++ take l.met l.other.nodes);
}
