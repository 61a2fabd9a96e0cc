-- SPDX-License-Identifier: GPL-2.0-only
use Rattle.std.proofs.Common.{Some, ap, sym, ◌∙◌}
use Rattle.shr_list.proofs.Walks.{here, is_at, none_got}
use Rattle.shr_list.proofs.queue.Queue.item.Goals as goal

pub object-requires : goal.object-requires
object-requires c = is_at c.self.inside.links.nodes c.args.i c.in-Some.node (here c.self.inside.links.nodes c.args.i c.in-Some.node c.in-Some.ensures.key)

pub returns-in-None : goal.returns-in-None
returns-in-None c = rw (← c.self.view_is) (sym (none_got c.self.inside.links.nodes c.args.i c.in-None.ensures.key))

pub returns-in-Some : goal.returns-in-Some
returns-in-Some c =
    let now = here c.self.inside.links.nodes c.args.i c.in-Some.node c.in-Some.ensures.key in
    rw (← c.self.view_is) (ap Some (c.object.ensures _ now.object _ now.split) ∙ sym now.got)
