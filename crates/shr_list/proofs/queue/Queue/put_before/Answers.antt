-- SPDX-License-Identifier: GPL-2.0-only
use Rattle.shr_list.proofs.Common.{◌++◌, KnowsNames, EntersNodes}
use Rattle.shr_list.proofs.Splicing.{knows_before, take_front}
use Rattle.shr_list.proofs.queue.Queue.put_before.Goals as goal

pub invariant_of-self-2 : goal.invariant_of-self-2
invariant_of-self-2 c =
    let kids = c.other.inside.links.nodes in
    let nodes = c.reserve.new.self.nodes in
    let moved = c.put_before.ensures.moved in
    let taken : KnowsNames c.take_in.new.self (nodes ++ kids) = c.in_ok-take_in.ensures.taken in
    let entered : EntersNodes c.take_in.new.self c.enter.new.index moved.0 = rw (c.len-count.ensures, moved.1, take_front moved.0 nodes kids moved.2) at c.enter.ensures in
    rw moved.1 (knows_before c.take_in.new.self c.enter.new.index nodes kids moved.0 moved.2 taken entered)
