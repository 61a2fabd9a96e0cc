-- SPDX-License-Identifier: GPL-2.0-only
use Rattle.shr_plain.proofs.Common.{refl, with_part, part_of, with_room_given, [], ◌∷◌, ◌++◌, List, ap, sym, subst, ◌∙◌, length, arith, PlainEntry, IsPlainEntry, UnitsSat, UnitSeat, length-append}
use Rattle.shr_plain.proofs.Holding.{stored_in_hand, stored_hand, stored_given}
use Rattle.shr_plain.proofs.table.Pools.put.Goals as goal

pub store-requires-clause-more : goal.store-requires-clause-more
store-requires-clause-more c = c.with_entry-slot.ensures ∙ ap (λ (l : List PlainEntry). l ++ c.args.entry ∷ []) c.requires.same

pub store-requires-clause-may : goal.store-requires-clause-may
store-requires-clause-may c = subst (λ (l : List PlainEntry). IsPlainEntry l c.args.entry) c.requires.same c.requires.may

pub store-requires-clause-few : goal.store-requires-clause-few
store-requires-clause-few c = let long = ap length c.with_entry-slot.ensures in let sum = length-append c.args.slot.journal.items (c.args.entry ∷ []) in let few = c.requires.few in omega (arith, long, sum, few)

pub give-requires-clause-seat : goal.give-requires-clause-seat
give-requires-clause-seat c = record { same = ap (λ (x : UnitSeat). x.table_id) c.store.ensures.stored ∙ c.requires.seat.same; here = ap (λ (x : UnitSeat). x.me.0.standing.gone) c.store.ensures.stored ∙ c.requires.seat.here }

pub give-requires-clause-hand : goal.give-requires-clause-hand
give-requires-clause-hand c = stored_in_hand _ _ _ _ (ap (λ (x : UnitSeat). x.me) c.store.ensures.stored) c.requires.hand

pub give-requires-clause-taken : goal.give-requires-clause-taken
give-requires-clause-taken c = (c.requires.taken.0, ap (λ (m : UnitsSat). m.1) (ap (λ (x : UnitSeat). x.me) c.store.ensures.stored) ∙ c.requires.taken.1)

pub give-requires-clause-same : goal.give-requires-clause-same
give-requires-clause-same c = c.with_entry-slot.ensures ∙ (ap (λ (l : List PlainEntry). l ++ c.args.entry ∷ []) c.requires.same ∙ sym (stored_hand _ _ _ _ (ap (λ (x : UnitSeat). x.me) c.store.ensures.stored)))

pub returns : goal.returns
returns c = let s = c.args.seat.now in let t = c.store.new.seat in let i = c.args.room in let r : UnitsSat = (with_part t.me.0 i (with_room_given (part_of t.me.0 i)), []) in record {
  put = c.give.ensures.given ∙ (ap (λ (x : UnitSeat). record x { me = r }) c.store.ensures.stored
      ∙ ap (λ (m : UnitsSat). record s { me = m }) (stored_given i s.me t.me c.args.entry (ap (λ (x : UnitSeat). x.me) c.store.ensures.stored) r refl));
}
