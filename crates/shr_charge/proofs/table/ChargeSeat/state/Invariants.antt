-- SPDX-License-Identifier: GPL-2.0-only
use Rattle.shr_charge.proofs.Common.{◌≡◌, length, hierarchy_of, with_load, with_tree, state_in, IsWord, Shows}
use Rattle.shr_charge.proofs.table.ChargeSeat.state.Given as goal

abbrev pub ghosts-load_as : goal.ghosts-load_as
ghosts-load_as a = record { tells = λ w r. (r ≡ with_tree a.token.now.me (with_load a.token.now.me.0.tree a._group (state_in w))) × Shows (hierarchy_of a.self.now.shape) a.token.now.me.0.tree a._group (state_in w) × IsWord (length a.self.now.shape.parents.items) w }
