-- SPDX-License-Identifier: GPL-2.0-only
use Rattle.shr_audit_lists.proofs.Common.{ℕ, ◌+◌, ◌∙◌, List, [], ◌∷◌, Bool, length, length-append, ap, subst, Decides, HasBegunAbove}
use Rattle.shr_audit_lists.proofs.Beginning.{begun_more}
use Rattle.shr_audit_lists.proofs.begun.begun_groups.Goals as goal

pub loop-group-preserved : goal.loop-group-preserved
loop-group-preserved c =
    let pushed = c.in_ok-push.ensures.items in (
      ap length pushed ∙ (length-append c.loop-group.begun.items (c.is_begun-here.result ∷ []) ∙ ap (λ (n : ℕ). n + 1) c.loop-group.invariant.0),
      begun_more c.args.parents.now c.args.tree.now c.loop-group.begun.items c.push.new.self.items c.is_begun-here.result pushed c.loop-group.invariant.1
          (subst (λ (xs : List Bool). Decides c.is_begun-here.result (HasBegunAbove c.args.parents.now c.args.tree.now (length xs))) c.as_slice.ensures.value c.is_begun-here.ensures),
    )
