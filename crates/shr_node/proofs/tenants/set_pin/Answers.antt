-- SPDX-License-Identifier: GPL-2.0-only
use Rattle.shr_node.proofs.Common.{Bool, holds, pin_entry, NodeAnswer, sym, refl, subst, ◌∙◌, view_of}
use Rattle.shr_node.proofs.Acting.{asked_of, Hears, IsCall, call_ready, call_untouched, call_gives}
use Rattle.shr_node.proofs.tenants.set_pin.Given.{Over}
use Rattle.shr_node.proofs.tenants.set_pin.Goals.{After-give_back-arg-1, in-Done, in-Miss, in-Worn, in-Memory}
use Rattle.shr_node.proofs.tenants.set_pin.Goals as goal

call : (g : Over) (c : After-give_back-arg-1 g) → IsCall c.args.seat.now.core c.open_room-room.new.seat.core (view_of c.args.seat.now) (view_of c.open_room-room.new.seat) c.args.call.id c.args.call.node c.args.call.birth c.before_call-before.result.entries
    (λ items. holds c.args.call.birth c.args.key.now items) (λ old. pin_entry old c.args.call.by c.args.call.birth c.args.key.now c.args.pinned) c.open_room-room.result c.match-set_pin.answer c.set_pin.new.self
call g c = record {
  table = c.open_room-room.ensures.table;
  opened = c.open_room-room.ensures.opened;
  asked = asked_of c.args.seat.now.core (view_of c.args.seat.now) c.args.call.id c.args.call.node c.args.call.birth c.requires.rooms c.requires.holds c.requires.place;
  mine = refl;
  was = c.before_call-before.ensures.entries;
  heard = let hears : NodeAnswer Bool → Type 0 = λ n. Hears (λ items. holds c.args.call.birth c.args.key.now items) (λ old. pin_entry old c.args.call.by c.args.call.birth c.args.key.now c.args.pinned) c.open_room-room.result.place c.open_room-room.result.list n c.set_pin.new.self in
      elim c.match-set_pin.branch as (λ _. hears c.match-set_pin.answer) [
        | in-Done w ↦ subst hears (sym (w.answer-is ∙ w.told-answer.ensures)) (refl, w.in-Done.ensures.0, w.in-Done.ensures.1)
        | in-Miss w ↦ subst hears (sym (w.answer-is ∙ w.told-answer-in-Miss.ensures)) (refl, w.in-Miss.ensures.0, w.in-Miss.ensures.1)
        | in-Worn w ↦ subst hears (sym (w.answer-is ∙ w.worn-answer.ensures)) (refl, w.in-Worn.ensures)
        | in-Memory w ↦ subst hears (sym w.answer-is) w.in-Memory.ensures
      ];
}

pub give_back-requires-clause-ready : goal.give_back-requires-clause-ready
give_back-requires-clause-ready g c more = call_ready (call g c) more

pub give_back-requires-clause-untouched : goal.give_back-requires-clause-untouched
give_back-requires-clause-untouched g c left = call_untouched (call g c) left

pub returns-clause-answer : goal.returns-clause-answer
returns-clause-answer g c = call_gives (call g (goal.at.returns-clause-answer g c).After-give_back-arg-1) _ c.give_back.ensures.kept c.give_back.ensures.left
