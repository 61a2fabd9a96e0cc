-- SPDX-License-Identifier: GPL-2.0-only
use Rattle.shr_core.proofs.Common.{◌≡◌, rest, with_given}
use Rattle.shr_core.proofs.table.Core.give_front.Given as goal

abbrev pub ghosts-free_as : goal.ghosts-free_as
ghosts-free_as a = record { tells = λ _ q. q ≡ (with_given a.token.now.me.0 a._at, rest a.token.now.me.1) }
