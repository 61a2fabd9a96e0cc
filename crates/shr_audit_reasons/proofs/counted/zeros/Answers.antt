-- SPDX-License-Identifier: GPL-2.0-only
use Rattle.shr_audit_reasons.proofs.SpentCommon.{◌≡◌, ℕ, ◌+◌, List, [], ◌∷◌, length, length-append, get_or, sym, ap, subst, ◌∙◌, arith, zero_more}
use Rattle.shr_audit_reasons.proofs.counted.zeros.Goals as goal

pub loop-i-preserved : goal.loop-i-preserved
loop-i-preserved c =
    let pushed = c.in_ok-push.ensures.items in (
      ap length pushed ∙ (length-append c.loop-i.counts.items (0 ∷ []) ∙ ap (λ (n : ℕ). n + 1) c.loop-i.invariant.0),
      subst (λ (xs : List ℕ). (i : ℕ) → get_or xs i 0 ≡ 0) (sym pushed) (zero_more c.loop-i.counts.items c.loop-i.invariant.1),
    )

pub returns : goal.returns
returns c = (omega arith, c.loop-i.invariant.1)
