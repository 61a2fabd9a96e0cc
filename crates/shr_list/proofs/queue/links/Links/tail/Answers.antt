-- SPDX-License-Identifier: GPL-2.0-only
use Rattle.shr_list.specs.Links.{IsLinked}
use Rattle.shr_list.proofs.Linked.{tail_is}
use Rattle.shr_list.proofs.queue.links.Links.tail.Goals as goal

pub returns : goal.returns
returns c =
    let linked : IsLinked c.self.inside.chain c.args.self.now.nodes = rw (← c.self.view_is) c.self.invariant in
    tail_is c.self.inside.chain c.args.self.now.nodes linked
