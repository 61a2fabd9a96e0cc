-- SPDX-License-Identifier: GPL-2.0-only
use Rattle.shr_list.proofs.Common.{◌≡◌, ◌∷◌, [], take, drop, ◌+◌, None, true, rules, subst, is_some, AllByRecursion, Object, Keyed, in_nodes, name_by, name_in}
use Rattle.shr_list.proofs.Paths.{all_append, all_right}
use Rattle.shr_list.proofs.Walks.{here, is_at}
use Rattle.shr_list.proofs.queue.Queue.holds_any.Goals as goal

pub object-object-requires : goal.object-object-requires
object-object-requires c =
    let nodes = c.args.other.now.nodes in
    let met = c.loop-met.met in
    is_at nodes met c.in-Some.node (here nodes met c.in-Some.node (search rules))

pub next-at-requires : goal.next-at-requires
next-at-requires c =
    let nodes = c.args.other.now.nodes in
    let met = c.loop-met.met in
    is_at nodes met c.in-Some.node (here nodes met c.in-Some.node (search rules))

pub loop-met-preserved : goal.loop-met-preserved
loop-met-preserved c =
    let nodes = c.args.other.now.nodes in
    let met = c.loop-met.met in
    let now = here nodes met c.in-Some.node (search rules) in
    let object = c.object-object.ensures _ now.object _ now.split in
    let none : in_nodes c.args.self.now.nodes (name_by c.object-object.result.now) ≡ None = search rules in
    let fresh = subst (λ (o : Object). in_nodes c.args.self.now.nodes (name_by o) ≡ None) object none in
    record {
      at = c.next-at.ensures _ now.object _ now.split;
      so_far =
          rw now.more
          (all_append (λ (n : Keyed). in_nodes c.args.self.now.nodes (name_in n) ≡ None) (take met nodes) ((c.in-Some.node, now.object) ∷ [])
          c.loop-met.invariant.so_far (fresh, tt));
    }

pub returns-then-is_some : goal.returns-then-is_some
returns-then-is_some c =
    let nodes = c.args.other.now.nodes in
    let met = c.loop-met.met in
    let P : Keyed → Type 0 = λ n. in_nodes c.args.self.now.nodes (name_in n) ≡ None in
    let now = here nodes met c.in-Some.node (search rules) in
    let object = c.object-object.ensures _ now.object _ now.split in
    let held : is_some (in_nodes c.args.self.now.nodes (name_by c.object-object.result.now)) ≡ true = search rules in
    let taken = subst (λ (o : Object). is_some (in_nodes c.args.self.now.nodes (name_by o)) ≡ true) object held in (
      λ e. absurd (cc),
      λ fresh.
          let none = (all_right P (take met nodes) ((c.in-Some.node, now.object) ∷ drop (met + 1) nodes) (subst (AllByRecursion P) now.split fresh)).0 in
          let both = rw none at taken in absurd (cc),
    )
