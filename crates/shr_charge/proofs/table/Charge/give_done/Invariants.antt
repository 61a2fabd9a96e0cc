-- SPDX-License-Identifier: GPL-2.0-only
use Rattle.shr_charge.proofs.Common.{◌≡◌, with_room_back, with_done}
use Rattle.shr_charge.proofs.table.Charge.give_done.Given as goal

abbrev pub ghosts-store_as : goal.ghosts-store_as
ghosts-store_as a = record { tells = λ _ r. r ≡ with_room_back a.token.now.me (with_done a.token.now.me.0.tree a._group) }
