-- SPDX-License-Identifier: GPL-2.0-only
use Rattle.std.proofs.Common.{◌≡◌, true, false, List, ℕ, subst, arith}
use Rattle.shr_charge.proofs.Ways.{way_whole, way_short}
use Rattle.shr_charge.specs.Charging.{AreDowns}
use Rattle.shr_charge.proofs.table.ChargeSeat.uncharge.Goals as goal

pub lower-requires-clause-spare : goal.lower-requires-clause-spare
lower-requires-clause-spare c = let short = way_short c.args.self.now.charge.shape.parents.items c.args.group 0 in let spare = c.requires.spare in omega (arith, short, spare)

pub lower-requires-clause-room : goal.lower-requires-clause-room
lower-requires-clause-room c = λ e. absurd (let z : true ≡ false = e in cc)

pub returns : goal.returns
returns c = let did = c.lower.ensures.lowers in record {
  uncharges = record {
    ops = did.ops;
    noted = did.noted;
    made = subst (λ (l : List ℕ). AreDowns c.args.by l did.ops) (way_whole c.args.self.now.charge.shape.parents.items c.args.group) did.made;
  };
}
