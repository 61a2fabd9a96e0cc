-- SPDX-License-Identifier: GPL-2.0-only
use Rattle.shr_audit_case.proofs.ReplayCommon.{◌≡◌, ◌≤◌, ◌+◌, ◌++◌, ◌∷◌, [], Option, Some, ℕ, List, length, map, ◌∙◌, sym, ap, subst, inl, inr, arith, Keyed, objects_of, Object, Tag, tag_of, length-map}
use Rattle.shr_audit_case.proofs.Listing.{IsListed, listed_none, node_here, listed_more, listed_all}
use Rattle.shr_audit_case.proofs.tags.tags_in.Goals as goal

pub loop-object-init : goal.loop-object-init
loop-object-init c = listed_none c.args.queue.now.nodes _ _ c.head-at.ensures.first c.new-tags.ensures.items

pub returns-in_default : goal.returns-in_default
returns-in_default c = listed_all c.args.queue.now.nodes _ _ _ c.loop-object.invariant (inl c.in_default.is) ∙ ap (map tag_of) (sym c.head-at.ensures.whole.items)

pub object-requires : goal.object-requires
object-requires c = node_here c.args.queue.now.nodes c.in-Some.node c.loop-object._object c.loop-object.tags.items (subst (λ (at : Option ℕ). IsListed c.args.queue.now.nodes at c.loop-object._object c.loop-object.tags.items) c.in-Some.is c.loop-object.invariant)

pub next-at-requires : goal.next-at-requires
next-at-requires c = node_here c.args.queue.now.nodes c.in-Some.node c.loop-object._object c.loop-object.tags.items (subst (λ (at : Option ℕ). IsListed c.args.queue.now.nodes at c.loop-object._object c.loop-object.tags.items) c.in-Some.is c.loop-object.invariant)

pub loop-object-preserved : goal.loop-object-preserved
loop-object-preserved c =
    let pushed : c.push.new.self.items ≡ c.loop-object.tags.items ++ c.tag_of.result ∷ [] = c.in_ok-push.ensures.items in
    subst (λ (ts : List Tag). IsListed c.args.queue.now.nodes c.next-at.result (c.loop-object._object + 1) ts) (sym pushed)
    (listed_more c.args.queue.now.nodes c.in-Some.node c.loop-object._object c.loop-object.tags.items c.next-at.result c.tag_of.result
    (subst (λ (at : Option ℕ). IsListed c.args.queue.now.nodes at c.loop-object._object c.loop-object.tags.items) c.in-Some.is c.loop-object.invariant)
    c.next-at.ensures (λ xs o ys e. c.tag_of.ensures ∙ ap tag_of (c.object.ensures xs o ys e)))

pub returns : goal.returns
returns c =
    let many : length c.args.queue.now.nodes ≤ c.loop-object._object = omega (arith, c.loop-object-test.false, c.len-object-end.ensures, ap length c.head-at.ensures.whole.items, length-map c.args.queue.now.nodes (λ (n : Keyed). n.1)) in
    listed_all c.args.queue.now.nodes _ _ _ c.loop-object.invariant (inr many) ∙ ap (map tag_of) (sym c.head-at.ensures.whole.items)
