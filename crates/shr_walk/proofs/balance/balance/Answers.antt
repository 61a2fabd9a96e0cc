-- SPDX-License-Identifier: GPL-2.0-only
use Rattle.shr_walk.proofs.Common.{ℕ, ◌+◌, ◌<◌, List, length, get_or, refl, sym, ap, subst, ◌∙◌, inl, inr, arith, Contains, IsTree, groups_in, shape_of, walk_of, IsBalanceCut, OneGives, all_groups, walk_over, Shared, Contains-get_or}
use Rattle.shr_walk.proofs.Acted.{one_by, same_then}
use Rattle.shr_walk.proofs.Doing.{does_none}
use Rattle.shr_walk.proofs.Balancing.{IsBalancedTo, all_few, all_within, balanced_more, balanced_cut}
use Rattle.shr_walk.proofs.balance.balance.Goals as goal

pub returns-in-Err-clause-balanced : goal.returns-in-Err-clause-balanced
returns-in-Err-clause-balanced g c = inl (refl, does_none c.args.worker.now.state)

pub walk_one-answer-requires-clause-place : goal.walk_one-answer-requires-clause-place
walk_one-answer-requires-clause-place g c = let inv = c.loop-group.invariant in let x = c.args.worker.now.shared in let i = c.loop-group.group-index in
    let tree : IsTree x.tree.parents = subst IsTree (c.preorder.ensures.shared.parents) x.core.tree in
    let same = ap (λ (l : List ℕ). length l) inv.groups in
    let there : Contains (all_groups x) (get_or (all_groups x) i 0) = Contains-get_or (all_groups x) i 0 (omega (arith, same, c.loop-group-test.true)) in
    let within = all_within x.tree.parents tree (get_or (all_groups x) i 0) there in (
      subst (λ (y : Shared). c.args.node < (shape_of y.core).nodes) (sym inv.same.shared) c.requires.node,
      subst (λ (l : List ℕ). get_or l i 0 < groups_in (shape_of c.loop-group.worker.shared.core)) (sym inv.groups) (subst (λ (y : Shared). get_or (all_groups x) i 0 < groups_in (shape_of y.core)) (sym inv.same.shared)
          (subst (λ (l : List ℕ). get_or (all_groups x) i 0 < length l) (sym c.preorder.ensures.shared.parents) within)),
    )

pub overflow_add-freed : goal.overflow_add-freed
overflow_add-freed g c = let inv = c.loop-group.invariant in let x = c.args.worker.now.shared in
    let tree : IsTree x.tree.parents = subst IsTree (c.preorder.ensures.shared.parents) x.core.tree in
    let same = ap (λ (l : List ℕ). length l) inv.groups in
    let all = all_few x.tree.parents tree in
    let groups = ap (λ (l : List ℕ). length l) (sym c.preorder.ensures.shared.parents) in
    let most = x.core.limits in
    omega (arith, inv.few, c.walk_one-answer.ensures.few, c.told-freed.ensures, c.loop-group-test.true, same, all, groups, most)

pub returns-then-is_short-clause-balanced : goal.returns-then-is_short-clause-balanced
returns-then-is_short-clause-balanced g c = let inv = c.loop-group.invariant in let w = c.args.worker.now in let b = c.loop-group.worker in let last = c.walk_one-answer.new.worker in let i = c.loop-group.group-index in let a = c.walk_one-answer.result in
    let walk = walk_of w 0 c.args.node c.args.priority c.args.nofs in
    let same = ap (λ (l : List ℕ). length l) inv.groups in
    let one = subst (λ (l : List ℕ). OneGives w.shared (walk_over walk (get_or l i 0) (length b.state.walks)) a b.state last.state) inv.groups (one_by w b _ c.args.node c.args.priority c.args.nofs a last.state inv.same c.walk_one-answer.ensures.walked) in
    inr (subst (λ (n : ℕ). IsBalanceCut w.shared walk (c.loop-group.freed + n) w.state last.state) (sym c.told-freed.ensures)
    (balanced_cut w.shared walk i c.loop-group.freed w.state b.state last.state a (omega (arith, same, c.loop-group-test.true)) inv.balanced one (sym c.is_short.ensures ∙ c.if-is_short.true)))

pub loop-group-preserved : goal.loop-group-preserved
loop-group-preserved g c = let inv = c.loop-group.invariant in let w = c.args.worker.now in let b = c.loop-group.worker in let last = c.walk_one-answer.new.worker in let i = c.loop-group.group-index in let a = c.walk_one-answer.result in
    let walk = walk_of w 0 c.args.node c.args.priority c.args.nofs in
    let same = ap (λ (l : List ℕ). length l) inv.groups in
    let one = subst (λ (l : List ℕ). OneGives w.shared (walk_over walk (get_or l i 0) (length b.state.walks)) a b.state last.state) inv.groups (one_by w b _ c.args.node c.args.priority c.args.nofs a last.state inv.same c.walk_one-answer.ensures.walked) in
    record {
      groups = inv.groups;
      within = omega (arith, c.loop-group-test.true);
      few = omega (arith, inv.few, c.walk_one-answer.ensures.few, c.told-freed.ensures);
      balanced = subst (λ (n : ℕ). IsBalancedTo w.shared walk (i + 1) (c.loop-group.freed + n) w.state last.state) (sym c.told-freed.ensures)
          (balanced_more w.shared walk i c.loop-group.freed w.state b.state last.state a (omega (arith, same, c.loop-group-test.true)) inv.balanced one (sym c.is_short.ensures ∙ c.if-is_short.false));
      same = same_then w b last inv.same c.walk_one-answer.ensures.same;
    }
