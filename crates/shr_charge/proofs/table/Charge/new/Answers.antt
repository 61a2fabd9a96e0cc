-- SPDX-License-Identifier: GPL-2.0-only
use Rattle.shr_charge.proofs.Common.{◌≡◌, List, [], ◌∷◌, ◌++◌, ap, sym, subst, ◌∙◌, opening, Kept, TreeEntry, AreFirstGroupWords, IsChargeSound, first_charge_view}
use Rattle.shr_charge.proofs.Beginnings.{opened}
use Rattle.shr_charge.proofs.table.Charge.new.Goals as goal

pub new-requires-2 : goal.new-requires-2
new-requires-2 c = let room = c.new.result in
    let rooms : c.push.new.self.items ≡ room ∷ [] = c.in_ok-push.ensures.items ∙ ap (λ (l : List (Kept TreeEntry)). l ++ room ∷ []) c.new-rooms.ensures.items in
    let shape = c.args.shape in
    let first : AreFirstGroupWords shape.later.items c.deref.result.now = subst (AreFirstGroupWords shape.later.items) (sym c.deref.ensures.value) (subst (λ l. AreFirstGroupWords l c.in_ok-words.words.items) c.as_slice.ensures c.in_ok-words.ensures) in
    subst (λ (l : List (Kept TreeEntry)). IsChargeSound shape (opening c.deref.result.now l first_charge_view)) (sym rooms) (opened shape c.deref.result.now room first c.requires.shape.hierarchy c.new.ensures.items)
