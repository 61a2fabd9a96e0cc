-- SPDX-License-Identifier: GPL-2.0-only
use Rattle.shr_list.specs.Links.{nodes_of}
use Rattle.shr_list.proofs.Linked.{settled, linked_resized}
use Rattle.shr_list.proofs.queue.links.Links.reserve.Goals as goal

pub invariant_of-self : goal.invariant_of-self
invariant_of-self c = rw c.make_room.ensures.kept (settled _ _ (linked_resized c.self.inside.chain c.make_room.new.nodes.capacity (nodes_of c.self.inside.chain) c.self.invariant))

pub invariant_of-self-2 : goal.invariant_of-self-2
invariant_of-self-2 c = rw c.make_room.ensures.kept (settled _ _ (linked_resized c.self.inside.chain c.make_room.new.nodes.capacity (nodes_of c.self.inside.chain) c.self.invariant))

pub invariant_of-self-then-capacity-gt-KEYS : goal.invariant_of-self-then-capacity-gt-KEYS
invariant_of-self-then-capacity-gt-KEYS c = rw c.make_room.ensures.kept (settled _ _ (linked_resized c.self.inside.chain c.make_room.new.nodes.capacity (nodes_of c.self.inside.chain) c.self.invariant))
