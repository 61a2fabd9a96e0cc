-- SPDX-License-Identifier: GPL-2.0-only
use Rattle.shr_list.specs.Links.{IsLinked}
use Rattle.shr_list.proofs.Linked.{nodes_are, settled, head_stored, inserted_stop, linked_front}
use Rattle.shr_list.proofs.queue.links.Links.push_front.Goals as goal

pub join-requires-clause-after : goal.join-requires-clause-after
join-requires-clause-after c =
    let linked : IsLinked c.self.inside.chain c.args.self.now.nodes = rw (← c.self.view_is) c.self.invariant in
    inserted_stop c.self.inside.chain c.insert-node.new.self c.args.self.now.nodes c.insert-node.result c.args.object linked c.insert-node.ensures c.self.inside.chain.head (head_stored c.self.inside.chain c.args.self.now.nodes linked)

pub invariant_of-self : goal.invariant_of-self
invariant_of-self c =
    let linked : IsLinked c.self.inside.chain c.args.self.now.nodes = rw (← c.self.view_is) c.self.invariant in
    settled c.join-2.new.self _ (linked_front c.self.inside.chain c.insert-node.new.self c.args.self.now.nodes c.insert-node.result c.args.object linked c.insert-node.ensures c.join.new.self c.join-2.new.self c.join.ensures c.join-2.ensures)

pub returns-clause-nodes : goal.returns-clause-nodes
returns-clause-nodes c =
    let linked : IsLinked c.self.inside.chain c.args.self.now.nodes = rw (← c.self.view_is) c.self.invariant in
    nodes_are c.join-2.new.self _ (linked_front c.self.inside.chain c.insert-node.new.self c.args.self.now.nodes c.insert-node.result c.args.object linked c.insert-node.ensures c.join.new.self c.join-2.new.self c.join.ensures c.join-2.ensures)
