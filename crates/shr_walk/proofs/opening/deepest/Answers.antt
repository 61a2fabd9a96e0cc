-- SPDX-License-Identifier: GPL-2.0-only
use Rattle.std.proofs.Common.{◌≡◌, length, refl, subst, arith}
use Rattle.shr_walk.proofs.Opened.{IsDeepestTo, deepest_first, deepest_all}
use Rattle.shr_walk.proofs.opening.deepest.Goals as goal

pub loop-group-init : goal.loop-group-init
loop-group-init c = record { so_far = deepest_first c.args.tree.now.parents c.len-group-end.ensures.tree; within = omega arith; same = refl }

pub returns : goal.returns
returns c = let long = c.len-group-end.ensures.groups in let all = c.loop-group-test.false in let end = c.loop-group.auto.group-end in
    let whole : c.loop-group.group ≡ length c.args.tree.now.parents = omega (arith, long, all, end) in
    deepest_all c.args.tree.now.parents c.loop-group.most (subst (λ n. IsDeepestTo c.args.tree.now.parents n c.loop-group.most) whole c.loop-group.invariant.so_far)
