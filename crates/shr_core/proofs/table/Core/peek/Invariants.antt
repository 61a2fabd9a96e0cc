-- SPDX-License-Identifier: GPL-2.0-only
use Rattle.shr_core.specs.Tells.{worded}
use Rattle.shr_core.proofs.table.Core.peek.Given as goal

abbrev pub ghosts-load_as : goal.ghosts-load_as
ghosts-load_as a = record { tells = worded a.self.now.setting a.token.now.me a._at }
