-- SPDX-License-Identifier: GPL-2.0-only
use Rattle.shr_core.proofs.Common.{with_try, took, place_content, PlaceTold}
use Rattle.shr_core.proofs.table.Core.try_once.Given as goal

abbrev pub ghosts-exchange_as : goal.ghosts-exchange_as
ghosts-exchange_as a = record { tells = took a.token.now.me (with_try a.token.now.me.0 a._room) a._room a._row place_content (PlaceTold a.self.now.setting.shape a.token.now.me.0 a._room) }
