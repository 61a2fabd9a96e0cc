-- SPDX-License-Identifier: GPL-2.0-only
use Rattle.shr_deferred.proofs.Common.{List, subst, sym, ◌∙◌, slots_items, Final, Seen, PlaceAmount, Sizes, HasHistory, IsDeferredSound, strands_in}
use Rattle.std.proofs.lemmas.Result.{IfOk-weaker}
use Rattle.shr_deferred.proofs.Amounts.{ends, order_left}
use Rattle.shr_deferred.proofs.table.Deferred.finish.Goals as goal

pub returns-clause-history : goal.returns-clause-history
returns-clause-history c = let d = c.args.self in let closed = c.close_with-closed.result in let v = c.args.first.token.me.0 in
    let ended = ends d.sizes c.args.first.token.id v (slots_items closed.words) (slots_items closed.slots) c.requires.first.first c.requires.first.seat.seat.here c.requires.whole d.some.1 d.some.2
    (subst (λ (s : Sizes). Final (Seen (IsDeferredSound s) c.args.first.token.id v) (slots_items closed.words) (slots_items closed.slots)) d.keyed c.close_with-closed.ensures.values.2) in
    IfOk-weaker c.amounts_of-left.result _ _ (λ x is. subst (λ (l : List PlaceAmount). HasHistory d.sizes (strands_in v) l) (sym is) ended) c.amounts_of-left.ensures

pub returns-clause-left : goal.returns-clause-left
returns-clause-left c = let d = c.args.self in let closed = c.close_with-closed.result in let v = c.args.first.token.me.0 in
    let ended = order_left d.sizes c.args.first.token.id v (slots_items closed.words) (slots_items closed.slots) c.requires.first.first c.requires.first.seat.seat.here c.requires.whole d.some.1 d.some.2
    (subst (λ (s : Sizes). Final (Seen (IsDeferredSound s) c.args.first.token.id v) (slots_items closed.words) (slots_items closed.slots)) d.keyed c.close_with-closed.ensures.values.2) in
    IfOk-weaker c.amounts_of-left.result _ _ (λ x is. is ∙ ended) c.amounts_of-left.ensures
