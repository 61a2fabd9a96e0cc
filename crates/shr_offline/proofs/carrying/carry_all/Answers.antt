-- SPDX-License-Identifier: GPL-2.0-only
use Rattle.shr_offline.proofs.Common.{◌≡◌, ◌/◌, ◌%◌, ℕ, List, [], ◌∷◌, ◌++◌, refl, ap, subst, sym, ◌∙◌, arith, Shape, shape_of, GainsMoves, carry_move, carries_noted}
use Rattle.shr_model.specs.Groups.{parent_of}
use Rattle.shr_offline.proofs.CarriesLaws.{carried_more}
use Rattle.shr_offline.proofs.carrying.carry_all.Goals as goal

pub loop-number-preserved : goal.loop-number-preserved
loop-number-preserved c = let inv = c.loop-number.invariant in let did = c.carry-sum.ensures in let n = c.loop-number.number in let g = c.args.group in let amount = c.carry-sum.result in let shape = shape_of c.args.shared.now.core in
    let nodes : c.shape.result.now.nodes ≡ shape.nodes = ap (λ (z : Shape). z.nodes) c.shape.ensures in
    let parent : c.parent-parent.result ≡ parent_of shape.parents.items g = c.parent-parent.ensures ∙ ap (λ (l : List ℕ). parent_of l g) (sym c.requires.shared.parents) in
    let gains = subst (λ (k : ℕ). GainsMoves c.loop-number.seat c.carry-sum.new.seat (carry_move (record { id = n / k; node = n % k; group = parent_of shape.parents.items g }) (record { place = record { id = n / k; node = n % k; group = g }; amount = amount }))) nodes
    (subst (λ (p : ℕ). GainsMoves c.loop-number.seat c.carry-sum.new.seat (carry_move (record { id = n / c.shape.result.now.nodes; node = n % c.shape.result.now.nodes; group = p }) (record { place = record { id = n / c.shape.result.now.nodes; node = n % c.shape.result.now.nodes; group = g }; amount = amount }))) parent did.gains) in
    let noted = subst (λ (k : ℕ). c.carry-sum.new.carries.items ≡ c.loop-number.carries.items ++ carries_noted c.args.by (record { place = record { id = n / k; node = n % k; group = g }; amount = amount } ∷ [])) nodes did.noted in record {
      spare = let a = inv.spare in let b = did.spare in omega (arith, a, b);
      carried = carried_more shape c.args.by g n c.loop-number.sum amount c.args.seat.now c.loop-number.seat c.carry-sum.new.seat c.args.carries.now.items c.loop-number.carries.items c.carry-sum.new.carries.items
          (record { place = record { id = n / shape.nodes; node = n % shape.nodes; group = g }; amount = amount }) refl refl inv.carried gains noted;
      by = refl;
    }
