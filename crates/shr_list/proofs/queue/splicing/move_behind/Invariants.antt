-- SPDX-License-Identifier: GPL-2.0-only
use Rattle.shr_list.proofs.Common.{◌≡◌, ◌≤◌, ◌++◌, List, length, Keyed, objects_of, EntersNodes}
use Rattle.shr_list.proofs.queue.splicing.move_behind.Given as goal

abbrev pub invariant-loop-node : goal.invariant-loop-node
invariant-loop-node l = record {
  whole : (back : List Keyed) × (l.links.nodes ≡ l.fn.links.nodes ++ back) × (objects_of back ++ objects_of l.other.nodes ≡ objects_of l.fn.other.nodes) × EntersNodes l.fn.index l.index back;
  room : length l.other.nodes ≤ l.links.spare;
}

abbrev pub decreases-loop-node : goal.decreases-loop-node
decreases-loop-node l = length l.other.nodes
