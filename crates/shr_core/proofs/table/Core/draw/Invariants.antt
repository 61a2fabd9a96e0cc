-- SPDX-License-Identifier: GPL-2.0-only
use Rattle.shr_core.specs.Tells.{looked}
use Rattle.shr_core.proofs.table.Core.draw.Given as goal

abbrev pub ghosts-add_as : goal.ghosts-add_as
ghosts-add_as a = record { tells = looked a.self.now.setting a.token.now.me a._id }
