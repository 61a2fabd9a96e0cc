-- SPDX-License-Identifier: GPL-2.0-only
use Rattle.shr_list.proofs.Common.{◌≡◌, ◌≤◌, ◌++◌, List, length, Keyed, objects_of}
use Rattle.shr_list.proofs.queue.links.Links.put_before.Given as goal

abbrev pub invariant-loop-node : goal.invariant-loop-node
invariant-loop-node l = record {
  whole : (front : List Keyed) × (l.self.nodes ≡ front ++ l.fn.self.nodes) × (objects_of l.other.nodes ++ objects_of front ≡ objects_of l.fn.other.nodes);
  room : length l.other.nodes ≤ l.self.spare;
}

abbrev pub decreases-loop-node : goal.decreases-loop-node
decreases-loop-node l = length l.other.nodes
