-- SPDX-License-Identifier: GPL-2.0-only
use Rattle.std.proofs.Common.{◌+◌, ℕ, [], ◌∷◌, ◌∙◌, false, length, length-append, ap}
use Rattle.shr_audit_lists.proofs.Allowing.{none_more}
use Rattle.shr_audit_lists.proofs.standing.none_moved.Goals as goal

pub loop-group-preserved : goal.loop-group-preserved
loop-group-preserved c =
    let pushed = c.in_ok-push.ensures.items in (
      ap length pushed ∙ (length-append c.loop-group.moved.items (false ∷ []) ∙ ap (λ (n : ℕ). n + 1) c.loop-group.invariant.0),
      none_more c.loop-group.moved.items c.push.new.self.items pushed c.loop-group.invariant.1,
    )
