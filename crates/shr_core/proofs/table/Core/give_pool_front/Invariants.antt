-- SPDX-License-Identifier: GPL-2.0-only
use Rattle.shr_core.proofs.Common.{◌≡◌, rest, places_in, with_pool_given}
use Rattle.shr_core.proofs.table.Core.give_pool_front.Given as goal

abbrev pub ghosts-free_as : goal.ghosts-free_as
ghosts-free_as a = record { tells = λ _ q. q ≡ (with_pool_given a.token.now.me.0 (places_in a.self.now.setting.shape.ids), rest a.token.now.me.1) }
