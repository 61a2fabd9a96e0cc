-- SPDX-License-Identifier: GPL-2.0-only
use Rattle.shr_list.proofs.Common.{IsLinked, with_mark}
use Rattle.shr_list.proofs.Linked.{nodes_are, settled, stored_here, linked_changed}
use Rattle.shr_list.proofs.queue.links.Links.set_mark.Goals as goal

pub set_mark-requires : goal.set_mark-requires
set_mark-requires c =
    let linked : IsLinked c.self.inside.chain c.args.self.now.nodes = rw (← c.self.view_is) c.self.invariant in
    let at = c.requires in
    stored_here c.self.inside.chain c.args.self.now.nodes at.0 at.2 c.args.node at.1 linked at.3

pub invariant_of-self : goal.invariant_of-self
invariant_of-self c =
    let linked : IsLinked c.self.inside.chain c.args.self.now.nodes = rw (← c.self.view_is) c.self.invariant in
    let at = c.requires in
    settled c.set_mark.new.self _ (linked_changed c.self.inside.chain c.args.self.now.nodes at.0 at.2 c.args.node at.1 linked at.3 c.set_mark.new.self (with_mark c.args.marked) c.set_mark.ensures)

pub returns : goal.returns
returns c xs o ys split =
    let linked : IsLinked c.self.inside.chain c.args.self.now.nodes = rw (← c.self.view_is) c.self.invariant in
    nodes_are c.set_mark.new.self _ (linked_changed c.self.inside.chain c.args.self.now.nodes xs ys c.args.node o linked split c.set_mark.new.self (with_mark c.args.marked) c.set_mark.ensures)
