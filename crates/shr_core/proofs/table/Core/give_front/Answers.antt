-- SPDX-License-Identifier: GPL-2.0-only
use Rattle.shr_core.proofs.Common.{ℕ, ◌≡◌, ◌+◌, ◌*◌, ◌∷◌, ap, subst, sym, ◌∙◌, arith, Allows, rest, Sound, Sat, with_given}
use Rattle.shr_core.proofs.RoomSteps.{given}
use Rattle.shr_core.proofs.Laying.{inside_low}
use Rattle.shr_core.proofs.Calls.{may, stepped}
use Rattle.shr_core.proofs.table.Core.give_front.Goals as goal

pub free_as-requires : goal.free_as-requires
free_as-requires c = let core = c.args.self.now in let old = c.args.token.now in let token = c.exchange.new.seat in let k : ℕ = c.args.number in let row : ℕ = c.args.row in let is = c.requires.row.0 in
    may core token _ (8 * row + 1) (λ _. 0) (λ _ q. q ≡ (with_given token.me.0 k, rest token.me.1)) (c.exchange.ensures.0 ∙ c.requires.seat.table) c.lock_word.ensures (omega (arith, is, inside_low core.setting.shape k c.requires.room))
    (subst (λ (m : Sat). Allows (Sound core.setting) core.table.shared.table_id.slots token.id m (8 * row + 1) (λ _. 0) (λ _ q. q ≡ (with_given m.0 k, rest m.1))) (sym c.exchange.ensures.3)
    (subst (λ (x : ℕ). Allows (Sound core.setting) core.table.shared.table_id.slots token.id (old.me.0, (x, c.args.slot) ∷ rest old.me.1) (8 * x + 1) (λ _. 0) (λ _ q. q ≡ (with_given old.me.0 k, rest old.me.1))) (sym is)
    (given core.setting _ _ old.me.0 k c.args.slot (rest old.me.1) c.requires.room c.requires.seat.present c.requires.has c.requires.whole c.requires.same)))

pub returns : goal.returns
returns c = let e = c.free_as.ensures in record { given = stepped c.args.token.now _ _ (record { same = (e.same.0 ∙ c.exchange.ensures.0, e.same.1 ∙ c.exchange.ensures.1); told = e.told ∙ ap (λ (m : Sat). (with_given m.0 c.args.number, rest m.1)) c.exchange.ensures.3 }) }
