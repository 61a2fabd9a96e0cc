-- SPDX-License-Identifier: GPL-2.0-only
use Rattle.shr_core.specs.Tells.{empty_loaded}
use Rattle.shr_core.proofs.seat.Seat.finds_empty.Given as goal

abbrev pub ghosts-load_as : goal.ghosts-load_as
ghosts-load_as a = record { tells = empty_loaded a.token.now.me a._at }
