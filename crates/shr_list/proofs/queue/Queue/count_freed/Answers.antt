-- SPDX-License-Identifier: GPL-2.0-only
use Rattle.shr_list.proofs.Common.{◌≡◌, ◌+◌, ◌-◌, ◌<◌, ◌≤◌, min, length, arith, rules, drop_all, length-map, Keyed, objects_of, length-drop}
use Rattle.shr_list.proofs.Walks.{here, is_at, past}
use Rattle.shr_list.proofs.Counting.{counting_removed, counting_skipped, counting_rotated, counting_rotated_last, counting_stopped, counting_ends}
use Rattle.shr_list.proofs.queue.Queue.count_freed.Goals as goal
use Rattle.shr_list.proofs.queue.Queue.count_freed.Goals.{in-Removed, in-Skip, in-Rotate+then-rotated-gt0, then-rotated-gt0-via-then-rotated-gt0, then-rotated-gt0-via-else-rotated-gt0+then-met-len, in-Rotate+else-rotated-gt0+else-met-len}

pub returns-in_default : goal.returns-in_default
returns-in_default c =
    let few = past c.self.inside.links.nodes c.loop-met.met (search rules) in
    let within : c.loop-met.met < length c.self.inside.links.nodes = search rules in
    absurd (omega (arith, few, within))

pub object-requires : goal.object-requires
object-requires c = is_at c.self.inside.links.nodes c.loop-met.met c.in-Some.node (here c.self.inside.links.nodes c.loop-met.met c.in-Some.node (search rules))

pub next-at-requires : goal.next-at-requires
next-at-requires c = is_at c.self.inside.links.nodes c.loop-met.met c.in-Some.node (here c.self.inside.links.nodes c.loop-met.met c.in-Some.node (search rules))

pub returns-in-Stop : goal.returns-in-Stop
returns-in-Stop c =
    let nodes = c.self.inside.links.nodes in
    let met = c.loop-met.met in
    let now = here nodes met c.in-Some.node (search rules) in
    let object = c.object.ensures _ now.object _ now.split in
    rw (← c.self.view_is) (counting_stopped c.args.policy c.args.asked met (objects_of nodes) c.loop-met.freed c.loop-met.rotated now.object (omega arith) now.left (rw object at c.in-Stop.ensures)
    c.loop-met.invariant.counting)

pub returns : goal.returns
returns c =
    let nodes = c.self.inside.links.nodes in
    let items = objects_of nodes in
    let met = c.loop-met.met in
    let same : length items ≡ length nodes = length-map nodes (λ (n : Keyed). n.1) in
    let all : met ≡ min c.args.asked (length items) = search (rules, same) in
    let last : c.min.result ≡ min c.loop-met.rotated (c.args.asked - met) = search rules in
    let ends = counting_ends c.args.policy c.args.asked met items c.loop-met.freed c.loop-met.rotated all c.loop-met.invariant.counting in
    rw (← c.self.view_is) (omega (arith, ends, last))

pub loop-met-preserved : goal.loop-met-preserved
loop-met-preserved c =
    let nodes = c.self.inside.links.nodes in
    let items = objects_of nodes in
    let met = c.loop-met.met in
    let same : length items ≡ length nodes = length-map nodes (λ (n : Keyed). n.1) in
    let now = here nodes met c.in-Some.node (search rules) in
    let x = now.object in
    let object = c.object.ensures _ now.object _ now.split in
    let first = now.left in
    let next = c.next-at.ensures _ now.object _ now.split in
    let within = now.within in
    let counting = c.loop-met.invariant.counting in
    elim c.match-isolate.branch [
      | in-Removed w ↦ record {
        at = next;
        counting = rw (w.freed-is, w.rotated-is) (counting_removed c.args.policy c.args.asked met items c.loop-met.freed c.loop-met.rotated x (omega arith) first (rw object at w.in-Removed.ensures) counting);
        few = omega arith;
      }
      | in-Skip w ↦ record {
        at = next;
        counting = rw (w.freed-is, w.rotated-is) (counting_skipped c.args.policy c.args.asked met items c.loop-met.freed c.loop-met.rotated x (omega arith) first (rw object at w.in-Skip.ensures) counting);
        few = omega arith;
      }
      | in-Rotate+then-rotated-gt0 w ↦ record {
        at = next;
        counting = rw (w.freed-is, w.rotated-is) (counting_rotated c.args.policy c.args.asked met items c.loop-met.freed c.loop-met.rotated x (omega arith) first (rw object at w.in-Rotate.ensures)
            (elim w.then-rotated-gt0.branch [
              | then-rotated-gt0-via-then-rotated-gt0 v ↦ omega (arith, v.if-rotated-gt0)
              | then-rotated-gt0-via-else-rotated-gt0+then-met-len v ↦
                  let longer : met + 1 < length nodes = search rules in
                  omega (arith, longer, same, length-drop (met + 1) items)
            ]) counting);
        few = omega arith;
      }
      | in-Rotate+else-rotated-gt0+else-met-len w ↦ record {
        at = next;
        counting =
            let none : c.loop-met.rotated ≡ 0 = omega arith in
            let short : length nodes ≤ met + 1 = search rules in
            let last = drop_all (met + 1) items (omega (arith, short, same)) in
            rw (w.freed-is, w.rotated-is, none) (counting_rotated_last c.args.policy c.args.asked met items c.loop-met.freed x (omega arith) first (rw object at w.in-Rotate.ensures) last (rw none at counting));
        few = omega arith;
      }
    ]
