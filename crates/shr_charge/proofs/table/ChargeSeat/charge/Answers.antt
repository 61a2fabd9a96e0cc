-- SPDX-License-Identifier: GPL-2.0-only
use Rattle.shr_charge.proofs.Common.{◌<◌, ◌≤◌, false, length, sym, subst, Charge, Lowers, path_to}
use Rattle.std.proofs.Common.{rules}
use Rattle.shr_charge.proofs.Refusals.{refused_room, refused_spare, refused}
use Rattle.shr_charge.proofs.table.ChargeSeat.charge.Goals as goal

pub lower-requires-clause-group : goal.lower-requires-clause-group
lower-requires-clause-group c = subst (λ (k : Charge). c.args.group < length k.shape.parents.items) (sym c.in-Some.ensures.climbs.noted.table) c.requires.group

pub lower-requires-clause-room : goal.lower-requires-clause-room
lower-requires-clause-room c = λ e. refused_room _ _ _ _ _ _ _ _ c.in-Some.ensures.climbs

pub lower-requires-clause-spare : goal.lower-requires-clause-spare
lower-requires-clause-spare c = subst (λ (k : Charge). length (path_to k.shape.parents.items c.args.group c.in-Some.over.group) ≤ c.climb.new.uses.spare) (sym c.in-Some.ensures.climbs.noted.table) (refused_spare _ _ _ _ _ _ _ _ c.in-Some.ensures.climbs c.requires.spare)

pub returns : goal.returns
returns c = let table = c.in-Some.ensures.climbs.noted.table in
    record { charges = refused _ _ _ c.in-Some.over _ _ _ _ c.in-Some.ensures.climbs _ _ _ (search rules) (subst (λ (k : Charge). Lowers k.shape.parents.items c.args.by c.args.group c.in-Some.over.group false c.climb.new.self c.lower.new.self c.climb.new.uses c.lower.new.uses) table c.lower.ensures.lowers) }
