-- SPDX-License-Identifier: GPL-2.0-only
use Rattle.shr_charge.proofs.Common.{◌≡◌, length, ap, subst, sym, ◌∙◌, inl, inr, ⊎_elim, arith, Allows, Shape, hierarchy_of, IsChargeSound, group_index, state_at, state_in, IsWord, ChargeSat}
use Rattle.shr_charge.proofs.Moves.{reads}
use Rattle.shr_charge.proofs.table.Charge.state_in_hand.Goals as goal

pub load_as-requires-clause-step : goal.load_as-requires-clause-step
load_as-requires-clause-step c = let d = c.args.self.now in let t = d.table.shared in let m = c.args.token.now.me in let id = c.args.token.now.id in let g = c.args.group in
    subst (λ (k : Shape). Allows (IsChargeSound k) t.table_id.slots id m (group_index g) (λ y. y) (λ w r. (r ≡ m) × (state_in w ≡ state_at (hierarchy_of d.shape) m.0.tree.hand g) × IsWord (length d.shape.parents.items) w)) (sym d.keyed)
    (reads d.shape t.table_id.slots id m c.requires.seat.here g c.requires.group d.few c.requires.hand)

pub state_of-requires : goal.state_of-requires
state_of-requires c = let few = c.args.self.now.few in ⊎_elim (λ e. inl e) (λ low. inr (omega (arith, low, few))) c.load_as.ensures.told.2

pub returns-clause-same : goal.returns-clause-same
returns-clause-same c = let did = c.load_as.ensures in did.same ∙ ap (λ (m : ChargeSat). record c.args.token.now { me = m }) did.told.0

pub returns-clause-state : goal.returns-clause-state
returns-clause-state c = c.state_of.ensures ∙ c.load_as.ensures.told.1
