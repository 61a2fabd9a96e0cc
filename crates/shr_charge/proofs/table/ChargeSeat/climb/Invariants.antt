-- SPDX-License-Identifier: GPL-2.0-only
use Rattle.shr_charge.proofs.Common.{◌<◌, length, IsClimbing}
use Rattle.shr_charge.proofs.table.ChargeSeat.climb.Given as goal

abbrev pub invariant-climbing : goal.invariant-climbing
invariant-climbing l = record { there : l.at < length l.fn.self.charge.shape.parents.items; climbing : IsClimbing l.fn.self.charge.shape l.by l.group l.at l.fn.self l.self l.fn.uses l.uses }

abbrev pub decreases-climbing : goal.decreases-climbing
decreases-climbing l = l.at
