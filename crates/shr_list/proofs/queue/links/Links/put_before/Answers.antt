-- SPDX-License-Identifier: GPL-2.0-only
use Rattle.shr_list.proofs.Common.{◌≡◌, ◌+◌, List, ◌∷◌, ◌++◌, [], length, length-append, ap, sym, ◌∙◌, arith, rules, append_assoc, append-nil, Object, Keyed, objects_of}
use Rattle.shr_list.proofs.Walks.{at_end, no_end}
use Rattle.shr_list.proofs.Scans.{objects_append}
use Rattle.shr_list.proofs.queue.links.Links.put_before.Goals as goal

pub remove-object-requires : goal.remove-object-requires
remove-object-requires c = let last = at_end c.loop-node.other.nodes c.in-Some.node c.in-Some.ensures in (last.before, last.object, [], last.split)

pub loop-node-smaller : goal.loop-node-smaller
loop-node-smaller c =
    let last = at_end c.loop-node.other.nodes c.in-Some.node c.in-Some.ensures in
    let left = c.remove-object.ensures.nodes last.before last.object [] last.split in
    omega (arith, ap length left, ap length last.split, length-append last.before ((c.in-Some.node, last.object) ∷ []), length-append last.before [])

pub loop-node-preserved : goal.loop-node-preserved
loop-node-preserved c =
    let last = at_end c.loop-node.other.nodes c.in-Some.node c.in-Some.ensures in
    let o = last.object in
    let left = c.remove-object.ensures.nodes last.before o [] last.split ∙ append-nil last.before in
    let taken = c.remove-object.ensures.taken last.before o [] last.split in
    let whole = c.loop-node.invariant.whole in
    let front : Keyed = (c.push_front.result, c.remove-object.result) in
    let shorter : length c.loop-node.other.nodes ≡ length last.before + 1 = ap length last.split ∙ length-append last.before ((c.in-Some.node, o) ∷ []) in
    record {
      whole = (
        front ∷ whole.0,
        c.push_front.ensures.nodes ∙ ap (λ (ns : List Keyed). front ∷ ns) whole.1,
        rw (left, taken)
            (sym (append_assoc (objects_of last.before) (o ∷ []) (objects_of whole.0))
            ∙ ap (λ (os : List Object). os ++ objects_of whole.0) (sym (objects_append last.before ((c.in-Some.node, o) ∷ [])) ∙ sym (ap objects_of last.split)) ∙ whole.2),
      );
      room = omega (arith, ap length left, shorter, c.push_front.ensures.spare, c.loop-node.invariant.room);
    }

pub returns-clause-moved : goal.returns-clause-moved
returns-clause-moved c =
    let whole = c.loop-node.invariant.whole in
    let none = no_end c.loop-node.other.nodes (search rules) in
    (whole.0, whole.1, rw none at whole.2)

pub returns-clause-emptied : goal.returns-clause-emptied
returns-clause-emptied c = no_end c.loop-node.other.nodes (search rules)
