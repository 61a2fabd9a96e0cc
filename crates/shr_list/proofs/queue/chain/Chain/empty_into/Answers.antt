-- SPDX-License-Identifier: GPL-2.0-only
use Rattle.shr_list.proofs.Common.{◌≡◌, ◌++◌, ◌∷◌, [], List, length, Option, ℕ, None, Some, arith, rules, ap, sym, subst, refl, ◌∙◌, append_assoc, append-nil, IsApart, Keyed, objects_of, nodes_of, stops_of, Node}
use Rattle.shr_list.proofs.Emptied.{Leads, leads_path, leads_kept, leads_some, leads_none, linked_none}
use Rattle.shr_list.proofs.queue.chain.Chain.empty_into.Goals as goal

pub loop-next-init : goal.loop-next-init
loop-next-init c =
    let linked = c.requires.linked in
    record {
      left = (nodes_of c.args.self.now, leads_path c.args.self.now None (nodes_of c.args.self.now) linked.ring linked.stored, linked.apart.1, linked.count, refl);
      room = omega (arith, linked.count, c.requires.room);
    }

pub remove-node-requires : goal.remove-node-requires
remove-node-requires c =
    let left = c.loop-next.invariant.left in
    let is : c.loop-next.next ≡ Some c.in-Some.at = search rules in
    let leads : Leads c.loop-next.self.nodes (Some c.in-Some.at) left.0 = subst (λ (at : Option ℕ). Leads c.loop-next.self.nodes at left.0) is left.1 in
    let first = leads_some c.loop-next.self.nodes c.in-Some.at left.0 leads in
    rw first.2 refl

pub loop-next-preserved : goal.loop-next-preserved
loop-next-preserved c =
    let left = c.loop-next.invariant.left in
    let is : c.loop-next.next ≡ Some c.in-Some.at = search rules in
    let leads : Leads c.loop-next.self.nodes (Some c.in-Some.at) left.0 = subst (λ (at : Option ℕ). Leads c.loop-next.self.nodes at left.0) is left.1 in
    let first = leads_some c.loop-next.self.nodes c.in-Some.at left.0 leads in
    let rest = first.1 in
    let both = sym first.2 ∙ c.remove-node.ensures.value in
    let same : first.0 ≡ c.remove-node.result = cc in
    let apart : IsApart (stops_of ((c.in-Some.at, first.0.object) ∷ rest)) = subst (λ (ns : List Keyed). IsApart (stops_of ns)) first.3 left.2 in
    let later : Leads c.remove-node.new.self first.0.next rest =
    leads_kept c.loop-next.self.nodes c.remove-node.new.self c.in-Some.at first.0.next rest c.remove-node.ensures.updates.others apart.0 first.4 in
    record {
      left = (
        rest,
        subst (λ (n : Node). Leads c.remove-node.new.self n.next rest) same later,
        apart.1,
        omega (arith, left.3, ap length first.3, c.remove-node.ensures.len),
        rw (c.push.ensures.items, ← same)
            (append_assoc c.loop-next.all.items (first.0.object ∷ []) (objects_of rest)
            ∙ ap (λ (ns : List Keyed). c.loop-next.all.items ++ objects_of ns) (sym first.3) ∙ left.4),
      );
      room = omega (arith, c.remove-node.ensures.len, c.push.ensures.spare, c.loop-next.invariant.room);
    }

pub returns-clause-taken : goal.returns-clause-taken
returns-clause-taken c =
    let left = c.loop-next.invariant.left in
    let is : c.loop-next.next ≡ None = search rules in
    let leads : Leads c.loop-next.self.nodes None left.0 = subst (λ (at : Option ℕ). Leads c.loop-next.self.nodes at left.0) is left.1 in
    let none = leads_none c.loop-next.self.nodes left.0 leads in
    sym (append-nil c.loop-next.all.items) ∙ rw none at left.4

pub returns-clause-emptied : goal.returns-clause-emptied
returns-clause-emptied c =
    let left = c.loop-next.invariant.left in
    let is : c.loop-next.next ≡ None = search rules in
    let leads : Leads c.loop-next.self.nodes None left.0 = subst (λ (at : Option ℕ). Leads c.loop-next.self.nodes at left.0) is left.1 in
    let none = leads_none c.loop-next.self.nodes left.0 leads in
    linked_none (record { nodes = c.loop-next.self.nodes; head = None; tail = None }) refl refl (left.3 ∙ ap length none)
