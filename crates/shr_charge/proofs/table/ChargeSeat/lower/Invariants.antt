-- SPDX-License-Identifier: GPL-2.0-only
use Rattle.shr_charge.proofs.Common.{◌<◌, length, IsLowering}
use Rattle.shr_charge.proofs.table.ChargeSeat.lower.Given as goal

abbrev pub invariant-lowering : goal.invariant-lowering
invariant-lowering l = record { there : l.at < length l.fn.self.charge.shape.parents.items; lowering : IsLowering l.fn.self.charge.shape.parents.items l.by l.group l.last l.at l.count l.fn.self l.self l.fn.uses l.uses }

abbrev pub decreases-lowering : goal.decreases-lowering
decreases-lowering l = l.at
