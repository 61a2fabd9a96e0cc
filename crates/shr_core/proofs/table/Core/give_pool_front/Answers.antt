-- SPDX-License-Identifier: GPL-2.0-only
use Rattle.shr_core.proofs.Common.{ℕ, ◌≡◌, ◌+◌, ◌*◌, ◌∷◌, ap, subst, sym, ◌∙◌, arith, Allows, rest, places_in, Sound, Sat, with_pool_given}
use Rattle.shr_core.proofs.RoomSteps.{pool_given}
use Rattle.shr_core.proofs.Laying.{pool_row}
use Rattle.shr_core.proofs.Calls.{may, stepped}
use Rattle.shr_core.proofs.table.Core.give_pool_front.Goals as goal

pub free_as-requires : goal.free_as-requires
free_as-requires c = let core = c.args.self.now in let old = c.args.token.now in let token = c.exchange.new.seat in let p : ℕ = places_in core.setting.shape.ids in let row : ℕ = c.args.row in let is = c.requires.row.0 in
    may core token _ (8 * row + 1) (λ _. 0) (λ _ q. q ≡ (with_pool_given token.me.0 p, rest token.me.1)) (c.exchange.ensures.0 ∙ c.requires.seat.table) c.lock_word.ensures (omega (arith, is, pool_row core.setting.shape))
    (subst (λ (m : Sat). Allows (Sound core.setting) core.table.shared.table_id.slots token.id m (8 * row + 1) (λ _. 0) (λ _ q. q ≡ (with_pool_given m.0 p, rest m.1))) (sym c.exchange.ensures.3)
    (subst (λ (x : ℕ). Allows (Sound core.setting) core.table.shared.table_id.slots token.id (old.me.0, (x, c.args.slot) ∷ rest old.me.1) (8 * x + 1) (λ _. 0) (λ _ q. q ≡ (with_pool_given old.me.0 p, rest old.me.1))) (sym is)
    (pool_given core.setting _ _ old.me.0 c.args.slot (rest old.me.1) c.requires.seat.present c.requires.has c.requires.same c.requires.spare)))

pub returns : goal.returns
returns c = let e = c.free_as.ensures in record { given = stepped c.args.token.now _ _ (record { same = (e.same.0 ∙ c.exchange.ensures.0, e.same.1 ∙ c.exchange.ensures.1); told = e.told ∙ ap (λ (m : Sat). (with_pool_given m.0 (places_in c.args.self.now.setting.shape.ids), rest m.1)) c.exchange.ensures.3 }) }
