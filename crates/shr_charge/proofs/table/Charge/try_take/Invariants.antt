-- SPDX-License-Identifier: GPL-2.0-only
use Rattle.shr_charge.proofs.Common.{◌≡◌, ◌≢◌, hierarchy_of, TakesTreeRoom}
use Rattle.shr_charge.proofs.table.Charge.try_take.Given as goal

abbrev pub ghosts-lock_as : goal.ghosts-lock_as
ghosts-lock_as a = record { tells = λ n r. (n ≡ 0 → TakesTreeRoom (hierarchy_of a.self.now.shape) a.token.now.me r) × (n ≢ 0 → r ≡ a.token.now.me) }
