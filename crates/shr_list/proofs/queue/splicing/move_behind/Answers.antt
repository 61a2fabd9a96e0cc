-- SPDX-License-Identifier: GPL-2.0-only
use Rattle.shr_list.proofs.Common.{◌≡◌, ◌+◌, List, ◌∷◌, ◌++◌, [], length, refl, ap, sym, subst, ◌∙◌, arith, rules, append_assoc, append-nil, Object, Keyed, objects_of, MovesName, name_by}
use Rattle.shr_list.proofs.Walks.{at_head, no_head}
use Rattle.shr_list.proofs.Scans.{objects_append}
use Rattle.shr_list.proofs.Splicing.{enters_none, enters_one}
use Rattle.shr_list.proofs.queue.splicing.move_behind.Goals as goal

pub loop-node-init : goal.loop-node-init
loop-node-init c = record { whole = ([], sym (append-nil c.args.links.now.nodes), refl, enters_none c.args.index.now); room = search rules }

pub remove-requires : goal.remove-requires
remove-requires c = let first = at_head c.loop-node.other.nodes c.in-Some.node (search rules) in ([], first.0, first.1, first.2)

pub object-object-requires : goal.object-object-requires
object-object-requires c = (c.loop-node.links.nodes, c.remove.result, [], rw c.push_back-moved.ensures.key c.push_back-moved.ensures.nodes)

pub loop-node-smaller : goal.loop-node-smaller
loop-node-smaller c =
    let first = at_head c.loop-node.other.nodes c.in-Some.node (search rules) in
    let left = c.remove.ensures.nodes [] first.0 first.1 first.2 in
    omega (arith, ap length left, ap length first.2)

pub loop-node-preserved : goal.loop-node-preserved
loop-node-preserved c =
    let first = at_head c.loop-node.other.nodes c.in-Some.node (search rules) in
    let left = c.remove.ensures.nodes [] first.0 first.1 first.2 in
    let o = c.remove.result in
    let taken : o ≡ first.0 = c.remove.ensures.taken [] first.0 first.1 first.2 in
    let k = c.push_back-moved.result in
    let pushed : c.push_back-moved.new.self.nodes ≡ c.loop-node.links.nodes ++ (k, o) ∷ [] = rw c.push_back-moved.ensures.key c.push_back-moved.ensures.nodes in
    let object = c.object-object.ensures c.loop-node.links.nodes o [] pushed in
    let turns : MovesName c.loop-node.index c.turn.new.self (name_by o) k = subst (λ (p : Object). MovesName c.loop-node.index c.turn.new.self (name_by p) k) object c.turn.ensures in
    let whole = c.loop-node.invariant.whole in
    let shorter : length c.loop-node.other.nodes ≡ length first.1 + 1 = ap length first.2 ∙ omega arith in
    record {
      whole = (
        whole.0 ++ (k, o) ∷ [],
        pushed ∙ ap (λ (ns : List Keyed). ns ++ (k, o) ∷ []) whole.1 ∙ append_assoc c.args.links.now.nodes whole.0 ((k, o) ∷ []),
        rw (objects_append whole.0 ((k, o) ∷ []), append_assoc (objects_of whole.0) (o ∷ []) (objects_of c.remove.new.self.nodes), left, taken)
            (ap (λ (os : List Object). objects_of whole.0 ++ os) (sym (ap objects_of first.2)) ∙ whole.2),
        enters_one c.args.index.now c.loop-node.index c.turn.new.self whole.0 k o whole.3 turns,
      );
      room = omega (arith, ap length left, shorter, c.push_back-moved.ensures.spare, c.loop-node.invariant.room);
    }

pub returns : goal.returns
returns c =
    let whole = c.loop-node.invariant.whole in
    let none = no_head c.loop-node.other.nodes (search rules) in
    let same : objects_of whole.0 ≡ objects_of c.args.other.now.nodes = sym (append-nil (objects_of whole.0)) ∙ (rw none at whole.2) in
    record { moved = (whole.0, whole.1, same, whole.3); emptied = none }
