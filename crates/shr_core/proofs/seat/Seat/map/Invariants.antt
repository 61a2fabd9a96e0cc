-- SPDX-License-Identifier: GPL-2.0-only
use Rattle.std.proofs.Common.{◌/◌}
use Rattle.shr_core.specs.Tells.{mapped}
use Rattle.shr_core.proofs.seat.Seat.map.Given as goal

abbrev pub ghosts-load_as : goal.ghosts-load_as
ghosts-load_as a = record { tells = mapped a.self.now.setting.shape a.token.now.me a._at (a._at / 1024) }
