-- SPDX-License-Identifier: GPL-2.0-only
use Rattle.shr_list.proofs.Common.{Some, IsLinked, Joins, stop_after, prev_of}
use Rattle.shr_list.proofs.Linked.{nodes_are, settled, stored_here, prev_stop, next_stop, tail_left, linked_rotated}
use Rattle.shr_list.proofs.queue.links.Links.rotate.Goals as goal

pub prev-prev-requires : goal.prev-prev-requires
prev-prev-requires c =
    let linked : IsLinked c.self.inside.chain c.args.self.now.nodes = rw (← c.self.view_is) c.self.invariant in
    let at = c.requires in
    stored_here c.self.inside.chain c.args.self.now.nodes at.0 at.2 c.args.node at.1 linked at.3

pub next-next-requires : goal.next-next-requires
next-next-requires c =
    let linked : IsLinked c.self.inside.chain c.args.self.now.nodes = rw (← c.self.view_is) c.self.invariant in
    let at = c.requires in
    stored_here c.self.inside.chain c.args.self.now.nodes at.0 at.2 c.args.node at.1 linked at.3

pub join-requires-clause-before : goal.join-requires-clause-before
join-requires-clause-before c =
    let linked : IsLinked c.self.inside.chain c.args.self.now.nodes = rw (← c.self.view_is) c.self.invariant in
    let at = c.requires in
    rw c.prev-prev.ensures (prev_stop c.self.inside.chain c.args.self.now.nodes at.0 at.2 c.args.node at.1 linked at.3)

pub join-requires-clause-after : goal.join-requires-clause-after
join-requires-clause-after c =
    let linked : IsLinked c.self.inside.chain c.args.self.now.nodes = rw (← c.self.view_is) c.self.invariant in
    let at = c.requires in
    rw c.next-next.ensures (next_stop c.self.inside.chain c.args.self.now.nodes at.0 at.2 c.args.node at.1 linked at.3)

pub join-requires-2-clause-before : goal.join-requires-2-clause-before
join-requires-2-clause-before c =
    let linked : IsLinked c.self.inside.chain c.args.self.now.nodes = rw (← c.self.view_is) c.self.invariant in
    let at = c.requires in
    let joins : Joins c.self.inside.chain c.join.new.self (prev_of c.self.inside.chain (Some c.args.node)) (stop_after c.self.inside.chain (Some c.args.node)) = rw (← c.prev-prev.ensures, ← c.next-next.ensures) c.join.ensures in
    tail_left c.self.inside.chain c.args.self.now.nodes at.0 at.2 c.args.node at.1 linked at.3 c.join.new.self joins

pub join-requires-2-clause-after : goal.join-requires-2-clause-after
join-requires-2-clause-after c =
    let linked : IsLinked c.self.inside.chain c.args.self.now.nodes = rw (← c.self.view_is) c.self.invariant in
    let at = c.requires in
    rw (c.join.ensures.keeps.objects c.args.node) (stored_here c.self.inside.chain c.args.self.now.nodes at.0 at.2 c.args.node at.1 linked at.3)

pub join-requires-3-clause-before : goal.join-requires-3-clause-before
join-requires-3-clause-before c =
    let linked : IsLinked c.self.inside.chain c.args.self.now.nodes = rw (← c.self.view_is) c.self.invariant in
    let at = c.requires in
    rw (c.join-2.ensures.keeps.objects c.args.node, c.join.ensures.keeps.objects c.args.node) (stored_here c.self.inside.chain c.args.self.now.nodes at.0 at.2 c.args.node at.1 linked at.3)

pub invariant_of-self : goal.invariant_of-self
invariant_of-self c =
    let linked : IsLinked c.self.inside.chain c.args.self.now.nodes = rw (← c.self.view_is) c.self.invariant in
    let at = c.requires in
    let joins : Joins c.self.inside.chain c.join.new.self (prev_of c.self.inside.chain (Some c.args.node)) (stop_after c.self.inside.chain (Some c.args.node)) = rw (← c.prev-prev.ensures, ← c.next-next.ensures) c.join.ensures in
    settled c.join-3.new.self _ (linked_rotated c.self.inside.chain c.args.self.now.nodes at.0 at.2 c.args.node at.1 linked at.3 c.join.new.self c.join-2.new.self c.join-3.new.self joins c.join-2.ensures c.join-3.ensures)

pub returns : goal.returns
returns c xs o ys split =
    let linked : IsLinked c.self.inside.chain c.args.self.now.nodes = rw (← c.self.view_is) c.self.invariant in
    let joins : Joins c.self.inside.chain c.join.new.self (prev_of c.self.inside.chain (Some c.args.node)) (stop_after c.self.inside.chain (Some c.args.node)) = rw (← c.prev-prev.ensures, ← c.next-next.ensures) c.join.ensures in
    nodes_are c.join-3.new.self _ (linked_rotated c.self.inside.chain c.args.self.now.nodes xs ys c.args.node o linked split c.join.new.self c.join-2.new.self c.join-3.new.self joins c.join-2.ensures c.join-3.ensures)
