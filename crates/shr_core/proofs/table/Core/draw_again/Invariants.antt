-- SPDX-License-Identifier: GPL-2.0-only
use Rattle.shr_core.specs.Again.{looked_again}
use Rattle.shr_core.proofs.table.Core.draw_again.Given as goal

abbrev pub ghosts-swap_as : goal.ghosts-swap_as
ghosts-swap_as a = record { tells = looked_again a.token.now.me a._id a.old }
