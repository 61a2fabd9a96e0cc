-- SPDX-License-Identifier: GPL-2.0-only
use Rattle.shr_charge.proofs.Common.{◌≡◌, ◌<◌, ◌≤◌, ◌+◌, ◌*◌, ◌^◌, ℕ, Bool, true, false, [], ◌∷◌, length, refl, sym, ap, subst, ◌∙◌, ⊎_elim, arith, call_count, parent_of, Charge, ChargeSeated, IsLowering, IsPaced, path_to, uses_of, downs_at, both_uses, one_use}
use Rattle.shr_charge.proofs.Ways.{way_here, way_root}
use Rattle.shr_charge.proofs.Climbs.{lowering_first, lowering_room, lowering_calls, lowering_spare, lowering_next, lowered}
use Rattle.shr_charge.proofs.table.ChargeSeat.lower.Goals as goal

-- a call that counts has a down to make, and one that takes a charge back found an up of each
room_for : (count : Bool) (v : ChargeSeated) → IsPaced (uses_of v) → (count ≡ false → (j : ℕ) → downs_at j (uses_of v).ops < (uses_of v).charges + (uses_of v).uncharges) → (j : ℕ) → downs_at j (uses_of v).ops + 1 ≤ (uses_of v).charges + ((uses_of v).uncharges + call_count count)
room_for true v paced room j = let p = paced.down j in omega (arith, p)
room_for false v paced room j = let p = room refl j in omega (arith, p)

calls_for : (count : Bool) (v : ChargeSeated) → IsPaced (uses_of v) → 1 ≤ (uses_of v).seats → (count ≡ true → (uses_of v).uncharges < 2 ^ 25) → (uses_of v).uncharges + call_count count ≤ 2 ^ 25 * (uses_of v).seats
calls_for true v paced own calls = let few = calls refl in omega (arith, few, own)
calls_for false v paced own calls = let few = paced.uncharges in omega (arith, few)

pub lowering-init : goal.lowering-init
lowering-init c = record { there = c.requires.group; lowering = lowering_first _ _ _ _ _ _ _ (room_for c.args.count c.args.self.now (subst (λ (v : ChargeSeated). IsPaced (uses_of v)) c.self.view_is c.self.invariant.paced) c.requires.room) }

pub add_down-step-requires-clause-group : goal.add_down-step-requires-clause-group
add_down-step-requires-clause-group c = let inv = c.lowering.invariant in subst (λ (k : Charge). c.lowering.at < length k.shape.parents.items) (sym inv.lowering.noted.table) inv.there

pub add_down-step-requires-clause-room : goal.add_down-step-requires-clause-room
add_down-step-requires-clause-room c = let inv = c.lowering.invariant in let u = uses_of c.lowering.self in
    subst (λ b. downs_at c.lowering.at u.ops + 1 ≤ u.charges + (u.uncharges + call_count b)) (sym c.is_first-first.ensures)
    (lowering_room _ c.args.self.now.charge.tree _ _ _ _ inv.there _ _ c.lowering.self c.lowering.self c.args.uses.now c.lowering.uses c.lowering.uses inv.lowering)

pub add_down-step-requires-clause-calls : goal.add_down-step-requires-clause-calls
add_down-step-requires-clause-calls c = let inv = c.lowering.invariant in let u = uses_of c.lowering.self in
    let paced = subst (λ (v : ChargeSeated). IsPaced (uses_of v)) c.self.view_is c.self.invariant.paced in let own = subst (λ (v : ChargeSeated). 1 ≤ (uses_of v).seats) c.self.view_is c.self.invariant.own in
    subst (λ b. u.uncharges + call_count b ≤ 2 ^ 25 * u.seats) (sym c.is_first-first.ensures)
    (lowering_calls _ c.args.self.now.charge.tree _ _ _ _ inv.there _ _ c.lowering.self c.lowering.self c.args.uses.now c.lowering.uses c.lowering.uses inv.lowering (calls_for c.args.count c.args.self.now paced own c.requires.calls))

pub push-requires : goal.push-requires
push-requires c = let inv = c.lowering.invariant in lowering_spare _ c.args.self.now.charge.tree _ _ _ _ inv.there _ _ c.lowering.self c.lowering.self c.args.uses.now c.lowering.uses c.lowering.uses inv.lowering c.requires.spare

pub parent-at-requires : goal.parent-at-requires
parent-at-requires c = subst (λ (v : ChargeSeated). c.lowering.at < length v.charge.shape.parents.items) (sym c.self.view_is) c.lowering.invariant.there

pub returns-then-at-last : goal.returns-then-at-last
returns-then-at-last c = let did = c.add_down-step.ensures in let inv = c.lowering.invariant in let ps = c.args.self.now.charge.shape.parents.items in let at = c.lowering.at in let last = c.args.last in
    let gains = did.gains ∙ ap (λ b. record c.lowering.self { uses = both_uses (uses_of c.lowering.self) (one_use c.add_down-step.result 0 (call_count b)) }) c.is_first-first.ensures in
    record {
      lowers = lowered _ c.args.self.now.charge.tree _ _ _ _ inv.there _ _ _ _ _ _ _ inv.lowering _ did.group did.up did.by did.later gains c.push.ensures.items c.push.ensures.spare
          (⊎_elim (λ (e : at ≡ last). ap (path_to ps at) (sym e) ∙ way_here ps at) (λ (t : (at ≡ last → ⊥) × (at ≡ 0)). ap (λ g. path_to ps g last) t.1 ∙ (way_root ps last ∙ ap (λ g. g ∷ []) (sym t.1))) c.then-at-last.either);
    }

pub lowering-preserved : goal.lowering-preserved
lowering-preserved c = let did = c.add_down-step.ensures in let inv = c.lowering.invariant in let tree = c.args.self.now.charge.tree in let ps = c.args.self.now.charge.shape.parents.items in
    let gains = did.gains ∙ ap (λ b. record c.lowering.self { uses = both_uses (uses_of c.lowering.self) (one_use c.add_down-step.result 0 (call_count b)) }) c.is_first-first.ensures in
    let at : 0 < c.lowering.at = omega arith in let lower = tree.lower c.lowering.at at inv.there in let there = inv.there in
    let parent = subst (λ (v : ChargeSeated). c.parent-at.result ≡ parent_of v.charge.shape.parents.items c.lowering.at) c.self.view_is c.parent-at.ensures in record {
      there = omega (arith, lower, parent, there);
      lowering = subst (λ g. IsLowering ps c.args.by c.args.group c.args.last g c.args.count c.args.self.now c.add_down-step.new.self c.args.uses.now c.push.new.self) (sym parent)
          (lowering_next _ tree _ _ _ _ inv.there _ _ _ _ _ _ _ inv.lowering _ did.group did.up did.by did.later gains c.push.ensures.items c.push.ensures.spare c.if-at-last.false at);
    }
