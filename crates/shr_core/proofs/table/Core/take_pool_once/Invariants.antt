-- SPDX-License-Identifier: GPL-2.0-only
use Rattle.shr_core.proofs.Common.{places_in, took, turns_content, PoolTold}
use Rattle.shr_core.proofs.table.Core.take_pool_once.Given as goal

abbrev pub ghosts-exchange_as : goal.ghosts-exchange_as
ghosts-exchange_as a = record { tells = took a.token.now.me a.token.now.me.0 (places_in a.self.now.setting.shape.ids) a._row turns_content (PoolTold a.self.now.setting.shape a.token.now.me.0) }
