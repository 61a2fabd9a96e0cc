-- SPDX-License-Identifier: GPL-2.0-only
use Rattle.shr_core.proofs.Common.{◌≡◌, with_put}
use Rattle.shr_core.proofs.table.Core.put_back.Given as goal

abbrev pub ghosts-sub_as : goal.ghosts-sub_as
ghosts-sub_as a = record { tells = λ r q. q ≡ (with_put a.token.now.me.0, a.token.now.me.1) }
