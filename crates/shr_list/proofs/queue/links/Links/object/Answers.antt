-- SPDX-License-Identifier: GPL-2.0-only
use Rattle.shr_list.proofs.Common.{sym, ◌∙◌, IsLinked}
use Rattle.shr_list.proofs.Linked.{stored_here, names_at}
use Rattle.shr_list.proofs.queue.links.Links.object.Goals as goal

pub object-requires : goal.object-requires
object-requires c =
    let linked : IsLinked c.self.inside.chain c.args.self.now.nodes = rw (← c.self.view_is) c.self.invariant in
    let at = c.requires in
    stored_here c.self.inside.chain c.args.self.now.nodes at.0 at.2 c.args.node at.1 linked at.3

pub returns : goal.returns
returns c xs o ys split =
    let linked : IsLinked c.self.inside.chain c.args.self.now.nodes = rw (← c.self.view_is) c.self.invariant in
    let both = sym c.object.ensures ∙ names_at c.self.inside.chain c.args.self.now.nodes xs ys c.args.node o linked split in
    cc
