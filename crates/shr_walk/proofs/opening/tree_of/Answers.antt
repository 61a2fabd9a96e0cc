-- SPDX-License-Identifier: GPL-2.0-only
use Rattle.shr_walk.proofs.Common.{ℕ, ◌++◌, ◌∷◌, [], ap, sym, subst, refl, take, ◌∙◌, take_at_read, GroupDecl, root_path, HaveParentsBefore}
use Rattle.shr_walk.proofs.Opened.{group_more, no_refusal, only_memory}
use Rattle.shr_walk.proofs.opening.tree_of.Goals as goal

pub loop-group-preserved : goal.loop-group-preserved
loop-group-preserved c = let i = c.loop-group.group-index in let t = c.loop-group-test.true in record {
  so_far = group_more c.args.groups.now i c.group-item.result c.loop-group.tree c.add.new.tree (subst (HaveParentsBefore (root_path ∷ [])) (sym c.requires.2) c.requires.1.parents) t c.group-item.is c.loop-group.invariant.so_far c.in-Ok.ensures.added
      ((take_at_read c.args.groups.now i c.group-item.result t).1 ∙ ap (λ (g : GroupDecl). take i c.args.groups.now ++ g ∷ []) (sym c.group-item.is));
  same = refl;
}

pub unreachable-requires : goal.unreachable-requires
unreachable-requires c = let i = c.loop-group.group-index in let none = no_refusal c.requires.0 c.args.groups.now i c.group-item.result c.loop-group.tree c.requires.1 c.requires.2 c.loop-group-test.true c.group-item.is c.loop-group.invariant.so_far in
    c.in_default.not-Memory (only_memory ℕ c.in-Err.error _ c.in-Err.ensures.refused none)
