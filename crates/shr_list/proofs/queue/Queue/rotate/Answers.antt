-- SPDX-License-Identifier: GPL-2.0-only
use Rattle.shr_list.proofs.Common.{sym, subst, refl, false, Queued, IsAt, with_mark}
use Rattle.shr_list.proofs.Known.{knows_rotated}
use Rattle.shr_list.proofs.queue.Queue.rotate.Goals as goal

pub invariant_of-self : goal.invariant_of-self
invariant_of-self c =
    let nodes = c.self.inside.links.nodes in
    let at : IsAt nodes c.args.node = subst (λ (q : Queued). IsAt q.nodes c.args.node) (sym c.self.view_is) c.requires in
    let marked = with_mark false at.1 in
    let turned = c.rotate.ensures at.0 marked at.2 (c.set_mark.ensures at.0 at.1 at.2 at.3) in
    knows_rotated c.self.inside.index nodes at.0 at.2 c.args.node at.1 at.3 c.self.invariant c.rotate.new.self.nodes marked refl turned
