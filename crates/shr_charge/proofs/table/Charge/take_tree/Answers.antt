-- SPDX-License-Identifier: GPL-2.0-only
use Rattle.shr_charge.proofs.Common.{ℕ, List, ◌∷◌, ap, sym, subst, ◌∙◌, rest, Kept, TreeEntry, ChargeSat, IsTokenOf, ChargeToken}
use Rattle.shr_charge.proofs.Holding.{has_room, shown}
use Rattle.shr_charge.proofs.table.Charge.take_tree.Goals as goal

pub try_take-requires : goal.try_take-requires
try_take-requires g c = let inv = c.loop-turn.invariant in record {
  seat = subst (IsTokenOf c.args.self.now) (sym inv) c.requires.seat;
  bare = ap (λ (t : ChargeToken). t.me.1) inv ∙ c.requires.bare;
  out = ap (λ (t : ChargeToken). t.me.0.tree.in_hand) inv ∙ c.requires.out;
}

pub loop-turn-preserved : goal.loop-turn-preserved
loop-turn-preserved g c = let did = c.if-try_take.ensures in c.try_take.ensures.same ∙ (ap (λ (m : ChargeSat). record c.loop-turn.token { me = m }) c.if-try_take.ensures.taken ∙ c.loop-turn.invariant)

pub exchange-requires : goal.exchange-requires
exchange-requires g c = let took = c.if-try_take.ensures.taken in let inv = c.loop-turn.invariant in let slots = ap (λ (x : ChargeSat). x.1) took.seat in
    (ap (λ (t : ChargeToken). t.table_id) (c.try_take.ensures.same) ∙ (ap (λ (t : ChargeToken). t.table_id) inv ∙ c.requires.seat.same), (took.room, slots ∙ ap (λ (l : List (ℕ × Kept TreeEntry)). (0, took.room) ∷ l) (sym (ap (rest {S = Kept TreeEntry}) slots))))

pub returns-then-try_take-clause-room : goal.returns-then-try_take-clause-room
returns-then-try_take-clause-room g c = let inv = c.loop-turn.invariant in let did = c.exchange.ensures in let same = c.try_take.ensures.same in
    has_room _ c.args.token.now _ _ _ (ap (λ (t : ChargeToken). t.me) inv) c.if-try_take.ensures.taken did.2 c.exchange.new.seat _ (did.0 ∙ (ap (λ (t : ChargeToken). t.table_id) same ∙ ap (λ (t : ChargeToken). t.table_id) inv)) (did.1 ∙ (ap (λ (t : ChargeToken). t.id) same ∙ ap (λ (t : ChargeToken). t.id) inv)) did.3

pub returns-then-try_take-clause-shown : goal.returns-then-try_take-clause-shown
returns-then-try_take-clause-shown g c = let inv = c.loop-turn.invariant in let did = c.exchange.ensures in
    shown _ c.args.token.now _ _ _ (ap (λ (t : ChargeToken). t.me) inv) c.if-try_take.ensures.taken did.2
