-- SPDX-License-Identifier: GPL-2.0-only
use Rattle.shr_core.proofs.Common.{◌≡◌, with_stored, IsLater, last_entry}
use Rattle.shr_core.proofs.seat.Seat.store_count.Given as goal

abbrev pub ghosts-store_as : goal.ghosts-store_as
ghosts-store_as a = record { tells = λ _ q. (q ≡ (with_stored a.token.now.me.0 a._at (last_entry a._list.now.entries) a._list.now.items, a.token.now.me.1)) × IsLater a.token.now.me.0 a._at }
