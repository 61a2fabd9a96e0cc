-- SPDX-License-Identifier: GPL-2.0-only
use Rattle.shr_audit_walks.proofs.RoundsCommon.{◌≡◌, ◌+◌, ◌-◌, ℕ, List, [], ◌∷◌, ◌++◌, length, sym, ap, subst, ◌∙◌, arith, Global, Vec, AreOrdersFrom}
use Rattle.shr_audit_walks.proofs.Ordering.{order_more, whole_order}
use Rattle.shr_audit_walks.proofs.orders.orders_of.Goals as goal

pub loop-k-preserved : goal.loop-k-preserved
loop-k-preserved c =
    let parents = c.args.parents.now in
    let group = length parents - 1 - c.loop-k.k in
    let t = c.loop-k-test.true in
    let up : length parents - c.loop-k.k ≡ group + 1 = omega (arith, t) in
    let same : group ≡ length parents - (c.loop-k.k + 1) = omega (arith, t) in
    let before : AreOrdersFrom parents (group + 1) c.loop-k.orders.items = subst (λ (n : ℕ). AreOrdersFrom parents n c.loop-k.orders.items) up c.loop-k.invariant in
    let first : c.push.new.self.items ≡ group ∷ [] = c.in_ok-push.ensures.items ∙ ap (λ (xs : List ℕ). xs ++ group ∷ []) c.new-order.ensures.items in
    let whole = whole_order parents group c.push.new.self.items c.push_subtrees.new.order.items c.requires.tree (omega (arith, t)) first c.in_ok-push_subtrees.ensures in
    let more = order_more parents group c.loop-k.orders.items c.push_subtrees.new.order before whole in
    subst (λ (xs : List (Vec ℕ Global)). AreOrdersFrom parents (length parents - (c.loop-k.k + 1)) xs) (sym c.in_ok-push-2.ensures.items) (subst (λ (n : ℕ). AreOrdersFrom parents n (c.loop-k.orders.items ++ c.push_subtrees.new.order ∷ [])) same more)
