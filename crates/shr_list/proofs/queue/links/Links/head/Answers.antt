-- SPDX-License-Identifier: GPL-2.0-only
use Rattle.shr_list.specs.Links.{IsLinked}
use Rattle.shr_list.proofs.Linked.{head_is}
use Rattle.shr_list.proofs.Slots.{keys_apart}
use Rattle.shr_list.proofs.queue.links.Links.head.Goals as goal

pub returns : goal.returns
returns c =
    let linked : IsLinked c.self.inside.chain c.args.self.now.nodes = rw (← c.self.view_is) c.self.invariant in
    record { first = head_is c.self.inside.chain c.args.self.now.nodes linked; apart = keys_apart c.args.self.now.nodes linked.apart.1 }
