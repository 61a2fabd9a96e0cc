-- SPDX-License-Identifier: GPL-2.0-only
use Rattle.shr_core.specs.Tells.{count_loaded}
use Rattle.shr_core.proofs.seat.Seat.count.Given as goal

abbrev pub ghosts-load_as : goal.ghosts-load_as
ghosts-load_as a = record { tells = count_loaded a.self.now.setting.shape a.token.now.me a._at }
