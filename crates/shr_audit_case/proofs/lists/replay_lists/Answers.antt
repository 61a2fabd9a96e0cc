-- SPDX-License-Identifier: GPL-2.0-only
use Rattle.shr_audit_case.proofs.Common.{◌+◌, ℕ, ◌∙◌, [], ◌∷◌, length, length-append, sym, ap, subst, IsReplayOfList}
use Rattle.shr_audit_case.proofs.Replaying.{told_more}
use Rattle.shr_audit_case.proofs.lists.replay_lists.Goals as goal

pub loop-k-preserved : goal.loop-k-preserved
loop-k-preserved c =
    let pushed = c.in_ok-push.ensures.items in (
      ap length pushed ∙ (length-append c.loop-k.told.items (c.in_ok-replayed.replayed ∷ []) ∙ ap (λ (n : ℕ). n + 1) c.loop-k.invariant.0),
      (
        told_more c.args.parents.now c.args.ends.now c.loop-k.told.items c.push.new.self.items c.in_ok-replayed.replayed pushed c.loop-k.invariant.1.0
            (subst (λ (n : ℕ). IsReplayOfList c.args.parents.now c.args.ends.now n c.in_ok-replayed.replayed) (sym c.loop-k.invariant.0) c.in_ok-replayed.ensures.replayed),
        c.in_ok-replayed.ensures.left,
      ),
    )
