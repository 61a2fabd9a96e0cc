-- SPDX-License-Identifier: GPL-2.0-only
use Rattle.shr_core.proofs.Common.{◌≡◌, ℕ, [], ◌∷◌, map, ap, sym, subst, ◌∙◌, row_in, sizes_of, Sat, HasFirst, numbers_of, slot_numbers, rest}
use Rattle.shr_core.proofs.Fronts.{no_hand, one_hand, last_hand, first_hand, front, turned_front}
use Rattle.shr_core.proofs.table.Core.to_front.Goals as goal

pub returns-in-Nothing-clause-front : goal.returns-in-Nothing-clause-front
returns-in-Nothing-clause-front c = absurd (no_hand c.args.number _ (sym (ap numbers_of c.in-Nothing.is) ∙ c.requires.rooms) c.requires.has)

pub returns-in-Nothing-clause-rooms : goal.returns-in-Nothing-clause-rooms
returns-in-Nothing-clause-rooms c = absurd (no_hand c.args.number _ (sym (ap numbers_of c.in-Nothing.is) ∙ c.requires.rooms) c.requires.has)

pub returns-in-One-clause-front : goal.returns-in-One-clause-front
returns-in-One-clause-front c = let f : ℕ → ℕ = row_in (sizes_of c.args.self.now.setting.shape) in let o = c.requires in let t = one_hand c.args.number c.in-One.room _ (sym (ap numbers_of c.in-One.is) ∙ o.rooms) c.requires.has in
    (front (f c.args.number) (f c.in-One.room) [] c.args.token.now.me.1 (o.slots ∙ ap (map f) (sym o.rooms ∙ ap numbers_of c.in-One.is)) (ap f t.0)).0

pub returns-in-One-clause-rooms : goal.returns-in-One-clause-rooms
returns-in-One-clause-rooms c = (one_hand c.args.number c.in-One.room _ (sym (ap numbers_of c.in-One.is) ∙ c.requires.rooms) c.requires.has).1

pub returns-then-last-number-clause-front : goal.returns-then-last-number-clause-front
returns-then-last-number-clause-front c = let f : ℕ → ℕ = row_in (sizes_of c.args.self.now.setting.shape) in let o = c.requires in
    (front (f c.args.number) (f c.in-Two.last) (f c.in-Two.first ∷ []) c.args.token.now.me.1 (o.slots ∙ ap (map f) (sym o.rooms ∙ ap numbers_of c.in-Two.is)) (ap f c.if-last-number.true)).0

pub returns-then-last-number-clause-rooms : goal.returns-then-last-number-clause-rooms
returns-then-last-number-clause-rooms c = last_hand c.args.number c.in-Two.last c.in-Two.first _ (sym (ap numbers_of c.in-Two.is) ∙ c.requires.rooms) c.if-last-number.true

pub returns-else-last-number-clause-front : goal.returns-else-last-number-clause-front
returns-else-last-number-clause-front c = let f : ℕ → ℕ = row_in (sizes_of c.args.self.now.setting.shape) in let o = c.requires in let t = first_hand c.args.number c.in-Two.last c.in-Two.first _ (sym (ap numbers_of c.in-Two.is) ∙ o.rooms) c.if-last-number.false c.requires.has in
    subst (λ (m : Sat). HasFirst m.1 (f c.args.number)) (sym c.turn.ensures.2) (turned_front (f c.args.number) (f c.in-Two.last) (f c.in-Two.first) c.args.token.now.me.1 (o.slots ∙ ap (map f) (sym o.rooms ∙ ap numbers_of c.in-Two.is)) (ap f t.0)).0

pub returns-else-last-number-clause-others : goal.returns-else-last-number-clause-others
returns-else-last-number-clause-others c = let f : ℕ → ℕ = row_in (sizes_of c.args.self.now.setting.shape) in let o = c.requires in let t = first_hand c.args.number c.in-Two.last c.in-Two.first _ (sym (ap numbers_of c.in-Two.is) ∙ o.rooms) c.if-last-number.false c.requires.has in
    subst (λ (m : Sat). slot_numbers (rest m.1) ≡ f c.in-Two.last ∷ []) (sym c.turn.ensures.2) (turned_front (f c.args.number) (f c.in-Two.last) (f c.in-Two.first) c.args.token.now.me.1 (o.slots ∙ ap (map f) (sym o.rooms ∙ ap numbers_of c.in-Two.is)) (ap f t.0)).1

pub returns-else-last-number-clause-rooms : goal.returns-else-last-number-clause-rooms
returns-else-last-number-clause-rooms c = (first_hand c.args.number c.in-Two.last c.in-Two.first _ (sym (ap numbers_of c.in-Two.is) ∙ c.requires.rooms) c.if-last-number.false c.requires.has).1
