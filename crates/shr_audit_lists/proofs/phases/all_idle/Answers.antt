-- SPDX-License-Identifier: GPL-2.0-only
use Rattle.std.proofs.Common.{◌≡◌, ℕ, ◌+◌, List, [], ◌∷◌, length, length-append, get_or, sym, ap, subst, ◌∙◌, arith}
use Rattle.shr_audit_lists.proofs.Phasing.{phases_none}
use Rattle.shr_audit_lists.proofs.phases.all_idle.Goals as goal
use Rattle.shr_model.proofs.Lists.{zero_more}

pub loop-id-preserved : goal.loop-id-preserved
loop-id-preserved c =
    let pushed = c.in_ok-push.ensures.items in (
      ap length pushed ∙ (length-append c.loop-id.phases.items (0 ∷ []) ∙ ap (λ (n : ℕ). n + 1) c.loop-id.invariant.0),
      subst (λ (xs : List ℕ). (i : ℕ) → get_or xs i 0 ≡ 0) (sym pushed) (zero_more c.loop-id.phases.items c.loop-id.invariant.1),
    )

pub returns : goal.returns
returns c = phases_none c.loop-id.phases.items (omega arith) c.loop-id.invariant.1
