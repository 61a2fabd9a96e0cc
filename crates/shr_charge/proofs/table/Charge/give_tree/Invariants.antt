-- SPDX-License-Identifier: GPL-2.0-only
use Rattle.shr_charge.proofs.Common.{◌≡◌, with_room_back, with_tree_given}
use Rattle.shr_charge.proofs.table.Charge.give_tree.Given as goal

abbrev pub ghosts-store_as : goal.ghosts-store_as
ghosts-store_as a = record { tells = λ _ r. r ≡ with_room_back a.token.now.me (with_tree_given a.token.now.me.0.tree) }
