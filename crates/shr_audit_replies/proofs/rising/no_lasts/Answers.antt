-- SPDX-License-Identifier: GPL-2.0-only
use Rattle.shr_audit_replies.proofs.Common.{ap, arith, length, ◌∙◌, ◌∷◌, [], subst, List, ℕ, ◌<◌, sym, ◌+◌, Last, last_of_worker, no_last, length-append}
use Rattle.shr_audit_replies.proofs.Risings.{below_none, below_push}
use Rattle.shr_audit_replies.proofs.rising.no_lasts.Goals as goal

pub loop-worker-init : goal.loop-worker-init
loop-worker-init c = record {
  count = ap length c.new-seen.ensures.items;
  below = below_none c.new-seen.result.items c.new-seen.ensures.items;
}

pub loop-worker-preserved : goal.loop-worker-preserved
loop-worker-preserved c =
    let old = c.loop-worker.seen.items in
    let pushed = c.in_ok-push.ensures.items in
    record {
      count = ap length pushed ∙ (length-append old (no_last ∷ []) ∙ ap (λ (n : ℕ). n + 1) c.loop-worker.invariant.count);
      below = subst (λ (xs : List Last). (worker : ℕ) → (last_of_worker xs worker).journal < 1) (sym pushed) (below_push old c.loop-worker.invariant.below);
    }

pub returns : goal.returns
returns c = record {
  count = omega (arith, c.loop-worker.invariant.count, c.loop-worker-test.false, c.loop-worker.auto._worker-end);
  below = c.loop-worker.invariant.below;
}
