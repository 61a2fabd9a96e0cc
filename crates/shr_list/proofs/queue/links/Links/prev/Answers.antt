-- SPDX-License-Identifier: GPL-2.0-only
use Rattle.shr_list.proofs.Common.{◌∙◌, IsLinked}
use Rattle.shr_list.proofs.Linked.{stored_here, prev_is}
use Rattle.shr_list.proofs.queue.links.Links.prev.Goals as goal

pub prev-requires : goal.prev-requires
prev-requires c =
    let linked : IsLinked c.self.inside.chain c.args.self.now.nodes = rw (← c.self.view_is) c.self.invariant in
    let at = c.requires in
    stored_here c.self.inside.chain c.args.self.now.nodes at.0 at.2 c.args.node at.1 linked at.3

pub returns : goal.returns
returns c xs o ys split =
    let linked : IsLinked c.self.inside.chain c.args.self.now.nodes = rw (← c.self.view_is) c.self.invariant in
    c.prev.ensures ∙ prev_is c.self.inside.chain c.args.self.now.nodes xs ys c.args.node o linked split
