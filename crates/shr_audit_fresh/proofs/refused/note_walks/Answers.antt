-- SPDX-License-Identifier: GPL-2.0-only
use Rattle.shr_audit_fresh.proofs.Common.{List, ◌∷◌, [], ◌++◌, take, sym, ap, subst, ◌∙◌, take_more, take_all, WalkRecord, AreLeastOfGroups, ShownByWalks}
use Rattle.shr_audit_fresh.proofs.refused.note_walks.Goals as goal

pub loop-walk-init : goal.loop-walk-init
loop-walk-init c = λ h. h

pub loop-walk-preserved : goal.loop-walk-preserved
loop-walk-preserved c = let i = c.loop-walk.walk-index in let walks = c.walks_of-walk-items.result.now in
    λ h. subst (λ (ws : List WalkRecord). AreLeastOfGroups (ShownByWalks c.args.report.now c.args.worker ws) c.note_walk.new.firsts)
    (sym (take_more walks i c.walk-item.result c.loop-walk-test.true ∙ ap (λ (w : WalkRecord). take i walks ++ w ∷ []) (sym c.walk-item.is)))
    (c.in_ok-note_walk.ensures (take i walks) (c.loop-walk.invariant h))

pub returns : goal.returns
returns c = λ h. subst (λ (ws : List WalkRecord). AreLeastOfGroups (ShownByWalks c.args.report.now c.args.worker ws) c.loop-walk.firsts)
    (take_all c.loop-walk.walk-index c.walks_of-walk-items.result.now c.loop-walk-test.false ∙ c.walks_of-walk-items.ensures) (c.loop-walk.invariant h)
