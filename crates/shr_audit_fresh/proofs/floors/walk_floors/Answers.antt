-- SPDX-License-Identifier: GPL-2.0-only
use Rattle.shr_audit_fresh.proofs.Common.{List, ◌∷◌, [], ◌++◌, take, sym, ap, subst, ◌∙◌, take_more, take_all, WalkRecord, AreFloors}
use Rattle.shr_audit_fresh.proofs.WalkFloors.{none_floored}
use Rattle.shr_audit_fresh.proofs.floors.walk_floors.Goals as goal

pub loop-walk-init : goal.loop-walk-init
loop-walk-init c = (c.in_ok-floors.ensures.0, none_floored c.args.worker c.in_ok-floors.floors.items c.in_ok-floors.ensures.1)

pub loop-walk-preserved : goal.loop-walk-preserved
loop-walk-preserved c = let i = c.loop-walk.walk-index in let walks = c.walks_of-walk-items.result.now in (
  c.note_walk.ensures.count ∙ c.loop-walk.invariant.0,
  subst (λ (ws : List WalkRecord). AreFloors c.args.worker ws c.note_walk.new.floors.items)
      (sym (take_more walks i c.walk-item.result c.loop-walk-test.true ∙ ap (λ (w : WalkRecord). take i walks ++ w ∷ []) (sym c.walk-item.is)))
      (c.note_walk.ensures.noted (take i walks) c.loop-walk.invariant.1),
)

pub returns : goal.returns
returns c = (
  c.loop-walk.invariant.0,
  subst (λ (ws : List WalkRecord). AreFloors c.args.worker ws c.loop-walk.floors.items)
      (take_all c.loop-walk.walk-index c.walks_of-walk-items.result.now c.loop-walk-test.false ∙ c.walks_of-walk-items.ensures) c.loop-walk.invariant.1,
)
