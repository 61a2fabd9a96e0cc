-- SPDX-License-Identifier: GPL-2.0-only
use Rattle.shr_list.proofs.Common.{◌++◌, KnowsNames}
use Rattle.shr_list.proofs.Splicing.{knows_behind}
use Rattle.shr_list.proofs.queue.Queue.put_behind.Goals as goal

pub invariant_of-self-2 : goal.invariant_of-self-2
invariant_of-self-2 c =
    let kids = c.other.inside.links.nodes in
    let nodes = c.reserve.new.self.nodes in
    let moved = c.move_behind.ensures.moved in
    let taken : KnowsNames c.take_in.new.self (nodes ++ kids) = c.in_ok-take_in.ensures.taken in
    rw moved.1 (knows_behind c.take_in.new.self c.move_behind.new.index nodes kids moved.0 moved.2 taken moved.3)
