-- SPDX-License-Identifier: GPL-2.0-only
use Rattle.shr_charge.proofs.Common.{◌≡◌, length, hierarchy_of, state_at, state_in, IsWord}
use Rattle.shr_charge.proofs.table.Charge.state_in_hand.Given as goal

abbrev pub ghosts-load_as : goal.ghosts-load_as
ghosts-load_as a = record { tells = λ w r. (r ≡ a.token.now.me) × (state_in w ≡ state_at (hierarchy_of a.self.now.shape) a.token.now.me.0.tree.hand a._group) × IsWord (length a.self.now.shape.parents.items) w }
