-- SPDX-License-Identifier: GPL-2.0-only
use Rattle.shr_charge.proofs.Common.{◌≡◌, ◌<◌, length, ap, subst, sym, ◌∙◌, inl, inr, ⊎_elim, arith, Allows, Shape, ChargeSeated, hierarchy_of, IsChargeSound, group_index, seated_at, tree_of, with_load, with_tree, state_in, IsWord, Shows}
use Rattle.shr_charge.proofs.Moves.{loads}
use Rattle.shr_charge.proofs.SeatLaws.{IsOf-tree, token_less}
use Rattle.shr_charge.proofs.table.ChargeSeat.state.Goals as goal

pub load_as-requires-clause-step : goal.load_as-requires-clause-step
load_as-requires-clause-step c = let d = c.self.inside.charge.now in let t = d.table.shared in let m = c.self.inside.token.me in let id = c.self.inside.token.id in let g = c.args.group in
    let low = subst (λ (v : ChargeSeated). c.args.group < length v.charge.shape.parents.items) (sym c.self.view_is) c.requires.group in
    subst (λ (k : Shape). Allows (IsChargeSound k) t.table_id.slots id m (group_index g) (λ y. y) (λ w r. (r ≡ with_tree m (with_load m.0.tree g (state_in w))) × Shows (hierarchy_of d.shape) m.0.tree g (state_in w) × IsWord (length d.shape.parents.items) w)) (sym d.keyed)
    (loads d.shape t.table_id.slots id m c.self.invariant.seat.here g low d.few)

pub state_of-requires : goal.state_of-requires
state_of-requires c = let few = c.self.inside.charge.now.few in ⊎_elim (λ e. inl e) (λ low. inr (omega (arith, low, few))) c.load_as.ensures.told.2

pub invariant_of-self : goal.invariant_of-self
invariant_of-self c = let is = c.self.invariant in let did = c.load_as.ensures in
    IsOf-tree c.self.inside.charge.now c.self.inside.token c.load_as.new.token _ _ _ is (token_less c.self.inside.token c.load_as.new.token _ is.bare did.same did.told.0) is.out

pub returns-clause-loaded : goal.returns-clause-loaded
returns-clause-loaded c = let is = c.self.invariant in let did = c.load_as.ensures in
    ap (seated_at c.self.inside.charge.now) (token_less c.self.inside.token c.load_as.new.token _ is.bare did.same did.told.0) ∙ (ap (λ (v : ChargeSeated). record v { tree = with_load (tree_of v) c.args.group (state_in c.load_as.result) }) c.self.view_is
    ∙ ap (λ x. record c.args.self.now { tree = with_load (tree_of c.args.self.now) c.args.group x }) (sym c.state_of.ensures))

pub returns-clause-shows : goal.returns-clause-shows
returns-clause-shows c = subst (λ x. Shows (hierarchy_of c.args.self.now.charge.shape) (tree_of c.args.self.now) c.args.group x) (sym c.state_of.ensures)
    (subst (λ (v : ChargeSeated). Shows (hierarchy_of v.charge.shape) (tree_of v) c.args.group (state_in c.load_as.result)) c.self.view_is c.load_as.ensures.told.1)
