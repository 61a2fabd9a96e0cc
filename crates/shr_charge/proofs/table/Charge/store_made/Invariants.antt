-- SPDX-License-Identifier: GPL-2.0-only
use Rattle.shr_charge.proofs.Common.{◌≡◌, with_made, with_tree}
use Rattle.shr_charge.proofs.table.Charge.store_made.Given as goal

abbrev pub ghosts-store_as : goal.ghosts-store_as
ghosts-store_as a = record { tells = λ _ r. r ≡ with_tree a.token.now.me (with_made a.token.now.me.0.tree a._group) }
