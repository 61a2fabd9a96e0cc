-- SPDX-License-Identifier: GPL-2.0-only
use Rattle.std.proofs.Common.{◌≡◌, ℕ, ◌+◌, List, [], ◌∷◌, length, length-append, get_or, sym, ap, subst, ◌∙◌, arith}
use Rattle.shr_audit_fresh.proofs.floors.zeros.Goals as goal
use Rattle.shr_model.proofs.Lists.{zero_more}

pub loop-k-preserved : goal.loop-k-preserved
loop-k-preserved c =
    let pushed = c.in_ok-push.ensures.items in (
      ap length pushed ∙ (length-append c.loop-k.floors.items (0 ∷ []) ∙ ap (λ (n : ℕ). n + 1) c.loop-k.invariant.0),
      subst (λ (xs : List ℕ). (i : ℕ) → get_or xs i 0 ≡ 0) (sym pushed) (zero_more c.loop-k.floors.items c.loop-k.invariant.1),
    )

pub returns : goal.returns
returns c = (omega arith, c.loop-k.invariant.1)
