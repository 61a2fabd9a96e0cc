-- SPDX-License-Identifier: GPL-2.0-only
use Rattle.shr_core.specs.Tells.{phase_told}
use Rattle.shr_core.proofs.table.Core.raise_phase.Given as goal

abbrev pub ghosts-add_as : goal.ghosts-add_as
ghosts-add_as a = record { tells = phase_told a.self.now.setting a.token.now.me a._id a._decl }
