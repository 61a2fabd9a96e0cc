-- SPDX-License-Identifier: GPL-2.0-only
use Rattle.shr_audit_walks.proofs.RoundsCommon.{◌+◌, ℕ, List, ◌++◌, Vec, sym, ap, ◌∙◌, arith, Global, append-nil, append_assoc, preorder_of}
use Rattle.shr_audit_walks.proofs.Ordering.{below, no_child, none_before, one_child, is_none, is_one, order_at}
use Rattle.shr_audit_walks.proofs.orders.push_subtrees.Goals as goal
use Rattle.shr_audit_walks.proofs.orders.push_subtrees.Goals.{then-parents-child+in_ok-extend_from_slice, else-parents-child}

pub loop-child-init : goal.loop-child-init
loop-child-init c =
    sym (append-nil c.args.order.now.items) ∙ ap (λ (xs : List ℕ). c.args.order.now.items ++ xs) (sym (none_before c.args.parents.now c.args.group c.requires.tree (c.args.group + 1) (omega arith)))

pub loop-child-preserved : goal.loop-child-preserved
loop-child-preserved c =
    let parents = c.args.parents.now in
    let group = c.args.group in
    let child = c.loop-child.child in
    let old = c.args.order.now.items in
    let higher = c.loop-child.auto.child in
    let there = c.loop-child-test.true in
    elim c.if-parents-child.branch [
      | then-parents-child+in_ok-extend_from_slice w ↦
          let many = c.requires.behind.many in
          let one = is_one parents group child (omega (arith, higher)) there w.if-parents-child.true in
          let subtree = order_at parents (group + 1) child c.args.orders.now w.index-orders-parents.result c.requires.behind there (omega (arith, many, higher, there)) w.index-orders-parents.is in
          ap (λ (v : Vec ℕ Global). v.items) w.order-is
          ∙ w.in_ok-extend_from_slice.ensures.items
          ∙ ap (λ (xs : List ℕ). c.loop-child.order.items ++ xs) (w.as_slice.ensures.value ∙ subtree)
          ∙ ap (λ (xs : List ℕ). xs ++ preorder_of parents child) c.loop-child.invariant
          ∙ append_assoc old (below parents group child) (preorder_of parents child)
          ∙ ap (λ (xs : List ℕ). old ++ xs) (sym (one_child parents group child one))
      | else-parents-child w ↦
          ap (λ (v : Vec ℕ Global). v.items) w.order-is
          ∙ c.loop-child.invariant
          ∙ ap (λ (xs : List ℕ). old ++ xs) (sym (no_child parents group child (is_none parents group child w.if-parents-child.false)))
    ]
