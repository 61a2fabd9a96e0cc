-- SPDX-License-Identifier: GPL-2.0-only
use Rattle.shr_list.proofs.Common.{ap, sym, subst, Queued, IsAt, KnowsNames, name_by}
use Rattle.shr_list.proofs.queue.Queue.free.Goals as goal

pub invariant_of-self : goal.invariant_of-self
invariant_of-self c =
    let nodes = c.self.inside.links.nodes in
    let at : IsAt nodes c.args.node = subst (λ (q : Queued). IsAt q.nodes c.args.node) (sym c.self.view_is) c.requires in
    let o = at.1 in
    let taken = c.remove-object.ensures.taken at.0 o at.2 at.3 in
    let loses = c.remove.ensures at.0 at.2 c.args.node o (ap name_by (sym taken)) (subst (KnowsNames c.self.inside.index) at.3 c.self.invariant) in
    subst (KnowsNames c.remove.new.self) (sym (c.remove-object.ensures.nodes at.0 o at.2 at.3)) loses
