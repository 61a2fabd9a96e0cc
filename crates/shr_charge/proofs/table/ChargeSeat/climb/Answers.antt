-- SPDX-License-Identifier: GPL-2.0-only
use Rattle.shr_charge.proofs.Common.{◌≡◌, ◌<◌, ◌≤◌, ℕ, true, false, length, ap, sym, subst, ◌∙◌, arith, parent_of, Charge, ChargeSeated, Uses, IsBelow, IsClimbing, IsPaced, shape_limit, ups_at, uses_of}
use Rattle.shr_charge.proofs.Climbs.{climbing_first, climbing_room, climbing_calls, climbing_spare, climbing_next, climbed, stopped}
use Rattle.shr_charge.proofs.table.ChargeSeat.climb.Goals as goal

pub climbing-init : goal.climbing-init
climbing-init c = record { there = c.requires.group; climbing = climbing_first _ _ _ _ _ (subst (λ (v : ChargeSeated). (j : ℕ) → ups_at j (uses_of v).ops ≤ (uses_of v).charges) c.self.view_is c.self.invariant.paced.up) }

pub add_up-step-requires-clause-group : goal.add_up-step-requires-clause-group
add_up-step-requires-clause-group c = let inv = c.climbing.invariant in subst (λ (k : Charge). c.climbing.at < length k.shape.parents.items) (sym inv.climbing.noted.table) inv.there

pub add_up-step-requires-clause-room : goal.add_up-step-requires-clause-room
add_up-step-requires-clause-room c = let inv = c.climbing.invariant in climbing_room _ c.args.self.now.charge.tree _ _ _ inv.there _ c.climbing.self c.climbing.self c.args.uses.now c.climbing.uses c.climbing.uses inv.climbing

pub add_up-step-requires-clause-calls : goal.add_up-step-requires-clause-calls
add_up-step-requires-clause-calls c = let inv = c.climbing.invariant in let own = subst (λ (v : ChargeSeated). 1 ≤ (uses_of v).seats) c.self.view_is c.self.invariant.own in let seats = ap (λ (u : Uses). u.seats) inv.climbing.noted.gains in
    let few = climbing_calls _ c.args.self.now.charge.tree _ _ _ inv.there _ c.climbing.self c.climbing.self c.args.uses.now c.climbing.uses c.climbing.uses inv.climbing _ c.requires.calls in omega (arith, few, own, seats)

pub push-requires : goal.push-requires
push-requires c = let inv = c.climbing.invariant in climbing_spare _ c.args.self.now.charge.tree _ _ _ inv.there _ c.climbing.self c.climbing.self c.args.uses.now c.climbing.uses c.climbing.uses inv.climbing c.requires.spare

pub is_below-requires : goal.is_below-requires
is_below-requires c = let e = c.add_up-step.ensures.group in let there = c.climbing.invariant.there in
    subst (λ (v : ChargeSeated). c.add_up-step.result.group < length v.charge.shape.parents.items) (sym c.self.view_is) (omega (arith, e, there))

pub parent-at-requires : goal.parent-at-requires
parent-at-requires c = subst (λ (v : ChargeSeated). c.climbing.at < length v.charge.shape.parents.items) (sym c.self.view_is) c.climbing.invariant.there

pub returns-then-not-is_below : goal.returns-then-not-is_below
returns-then-not-is_below c = let did = c.add_up-step.ensures in let inv = c.climbing.invariant in let o = c.add_up-step.result in
    record {
      climbs = stopped _ c.args.self.now.charge.tree _ _ _ inv.there _ _ _ _ _ _ inv.climbing _ did.group did.up did.by did.later did.gains c.push.ensures.items c.push.ensures.spare
          (λ h. let e : true ≡ false = sym (c.is_below.ensures.1 (subst (λ (v : ChargeSeated). IsBelow (shape_limit v.charge.shape o.group) o) (sym c.self.view_is) h)) ∙ c.if-not-is_below.true in cc)
          did.small (subst (λ (v : ChargeSeated). IsPaced (uses_of v)) c.self.view_is c.self.invariant.paced);
    }

pub returns-then-at-eq0 : goal.returns-then-at-eq0
returns-then-at-eq0 c = let did = c.add_up-step.ensures in let inv = c.climbing.invariant in let o = c.add_up-step.result in
    record {
      climbs = climbed _ c.args.self.now.charge.tree _ _ _ inv.there _ _ _ _ _ _ inv.climbing _ did.group did.up did.by did.later did.gains c.push.ensures.items c.push.ensures.spare
          (subst (λ (v : ChargeSeated). IsBelow (shape_limit v.charge.shape o.group) o) c.self.view_is (c.is_below.ensures.0 c.if-not-is_below.false))
          c.if-at-eq0.true (subst (λ (v : ChargeSeated). IsPaced (uses_of v)) c.self.view_is c.self.invariant.paced);
    }

pub climbing-preserved : goal.climbing-preserved
climbing-preserved c = let did = c.add_up-step.ensures in let inv = c.climbing.invariant in let o = c.add_up-step.result in let tree = c.args.self.now.charge.tree in let at : 0 < c.climbing.at = omega arith in let lower = tree.lower c.climbing.at at inv.there in
    let parent = subst (λ (v : ChargeSeated). c.parent-at.result ≡ parent_of v.charge.shape.parents.items c.climbing.at) c.self.view_is c.parent-at.ensures in let there = inv.there in record {
      there = omega (arith, lower, parent, there);
      climbing = subst (λ g. IsClimbing c.args.self.now.charge.shape c.args.by c.args.group g c.args.self.now c.add_up-step.new.self c.args.uses.now c.push.new.self) (sym parent)
          (climbing_next _ tree _ _ _ inv.there _ _ _ _ _ _ inv.climbing _ did.group did.up did.by did.later did.gains c.push.ensures.items c.push.ensures.spare
          (subst (λ (v : ChargeSeated). IsBelow (shape_limit v.charge.shape o.group) o) c.self.view_is (c.is_below.ensures.0 c.if-not-is_below.false)) at);
    }
