-- SPDX-License-Identifier: GPL-2.0-only
use Rattle.shr_walk.proofs.ChargingCommon.{ℕ, List, ap, sym, subst, ◌∙◌, arith, depth_of, uses_of, tree_of, Acting, Charges, state_of, IsChargeTried}
use Rattle.shr_charge.specs.declared.table.Charge.{Charge}
use Rattle.shr_walk.proofs.Noting.{few_ops, tried_once}
use Rattle.shr_walk.proofs.charging.charge_once.Goals as goal

pub returns-clause-room : goal.returns-clause-room
returns-clause-room g c = let did = c.charge.ensures.charges in
    let made = few_ops c.worker.inside.seats.cache.charge.charge.shape c.worker.inside.by c.args.group c.charge.result did.ops did.made in
    let same = ap (λ (k : Charge). depth_of k.shape.parents.items c.args.group) c.worker.invariant.rested.charge in
    let depth = ap (λ (parents : List ℕ). depth_of parents c.args.group) c.worker.invariant.shared.charged ∙ sym c.depth-depth.ensures in
    rw (← c.worker.view_is) (omega (arith, made, same, depth, did.noted.spare, c.in_ok-reserve.ensures.spare))

pub returns-clause-tried : goal.returns-clause-tried
returns-clause-tried g c = let s = c.worker.inside.seats in let seat = c.charge.new.self in let uses = c.charge.new.uses in
    subst (λ (w : Acting). IsChargeTried w.shared w.by c.args.group c.charge.result w.state (record (state_of s) { uses = uses_of seat; tree = tree_of seat; noted = uses.items })) c.worker.view_is
    (tried_once c.worker.inside.shared.now c.worker.inside.by c.args.group c.charge.result s seat c.reserve.new.self uses c.reserve.ensures.items
    (subst (λ (k : Charge). Charges k.shape c.worker.inside.by c.args.group c.charge.result s.cache.charge seat c.reserve.new.self uses) c.worker.invariant.rested.charge c.charge.ensures.charges))
