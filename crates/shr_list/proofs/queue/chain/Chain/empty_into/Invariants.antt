-- SPDX-License-Identifier: GPL-2.0-only
use Rattle.shr_list.proofs.Common.{◌≡◌, ◌≤◌, ◌++◌, List, length, slab_len, IsApart, Keyed, objects_of, nodes_of, stops_of}
use Rattle.shr_list.proofs.Emptied.{Leads}
use Rattle.shr_list.proofs.queue.chain.Chain.empty_into.Given as goal

abbrev pub invariant-loop-next : goal.invariant-loop-next
invariant-loop-next l = record {
  left : (nodes : List Keyed) × Leads l.self.nodes l.next nodes × IsApart (stops_of nodes) × (slab_len l.self.nodes ≡ length nodes)
      × (l.all.items ++ objects_of nodes ≡ l.fn.all.items ++ objects_of (nodes_of l.fn.self));
  room : slab_len l.self.nodes ≤ l.all.spare;
}

abbrev pub decreases-loop-next : goal.decreases-loop-next
decreases-loop-next l = slab_len l.self.nodes
