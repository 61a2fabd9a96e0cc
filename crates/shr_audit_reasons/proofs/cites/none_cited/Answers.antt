-- SPDX-License-Identifier: GPL-2.0-only
use Rattle.shr_audit_reasons.proofs.Common.{◌≡◌, ◌+◌, ◌∷◌, [], ℕ, List, ap, arith, length, length-append, subst, sym, ◌∙◌, Cited, Never, cited_in}
use Rattle.shr_audit_reasons.proofs.Noting.{never_none, never_push}
use Rattle.shr_audit_reasons.proofs.cites.none_cited.Goals as goal

pub loop-n-init : goal.loop-n-init
loop-n-init c = record {
  count = ap length c.new-table.ensures.items;
  each = never_none c.new-table.result.items c.new-table.ensures.items;
}

pub loop-n-preserved : goal.loop-n-preserved
loop-n-preserved c =
    let old = c.loop-n.table.items in
    let pushed = c.in_ok-push.ensures.items in
    record {
      count = ap length pushed ∙ (length-append old (Never ∷ []) ∙ ap (λ (n : ℕ). n + 1) c.loop-n.invariant.count);
      each = subst (λ (xs : List Cited). (n : ℕ) → cited_in xs n ≡ Never) (sym pushed) (never_push old c.loop-n.invariant.each);
    }

pub returns : goal.returns
returns c = record {
  count = omega (arith, c.loop-n.invariant.count, c.loop-n-test.false, c.loop-n.auto._n-end);
  each = c.loop-n.invariant.each;
}
