-- SPDX-License-Identifier: GPL-2.0-only
use Rattle.shr_list.proofs.Common.{◌≡◌, ◌∙◌, ap, Held, IsLinked}
use Rattle.shr_list.proofs.Linked.{nodes_are, settled, tail_stored, inserted_stop, linked_back}
use Rattle.shr_list.proofs.queue.links.Links.push_back.Goals as goal

pub join-requires-clause-before : goal.join-requires-clause-before
join-requires-clause-before c =
    let linked : IsLinked c.self.inside.chain c.args.self.now.nodes = rw (← c.self.view_is) c.self.invariant in
    inserted_stop c.self.inside.chain c.insert-node.new.self c.args.self.now.nodes c.insert-node.result c.args.object linked c.insert-node.ensures c.self.inside.chain.tail (tail_stored c.self.inside.chain c.args.self.now.nodes linked)

pub invariant_of-self : goal.invariant_of-self
invariant_of-self c =
    let linked : IsLinked c.self.inside.chain c.args.self.now.nodes = rw (← c.self.view_is) c.self.invariant in
    settled c.join-2.new.self _ (linked_back c.self.inside.chain c.insert-node.new.self c.args.self.now.nodes c.insert-node.result c.args.object linked c.insert-node.ensures c.join.new.self c.join-2.new.self c.join.ensures c.join-2.ensures)

pub returns-clause-nodes : goal.returns-clause-nodes
returns-clause-nodes c =
    let linked : IsLinked c.self.inside.chain c.args.self.now.nodes = rw (← c.self.view_is) c.self.invariant in
    let key : c.insert-node.result ≡ c.args.self.now.vacant = c.insert-node.ensures.vacant ∙ ap (λ (held : Held). held.vacant) c.self.view_is in
    rw (← key)
    (nodes_are c.join-2.new.self _ (linked_back c.self.inside.chain c.insert-node.new.self c.args.self.now.nodes c.insert-node.result c.args.object linked c.insert-node.ensures c.join.new.self c.join-2.new.self c.join.ensures c.join-2.ensures))

pub returns-clause-key : goal.returns-clause-key
returns-clause-key c = c.insert-node.ensures.vacant ∙ ap (λ (held : Held). held.vacant) c.self.view_is
