-- SPDX-License-Identifier: GPL-2.0-only
use Rattle.shr_node.proofs.Common.{Bool, not, ap, holds, add_entry, NodeAnswer, sym, refl, subst, ◌∙◌, view_of}
use Rattle.shr_node.proofs.Acting.{asked_of, Hears, IsCall, call_ready, call_untouched, call_gives}
use Rattle.shr_node.proofs.tenants.add.Given.{Over}
use Rattle.shr_node.proofs.tenants.add.Goals.{After-give_back-arg-1, in-Added, in-Exists, in-Worn, in-Memory}
use Rattle.shr_node.proofs.tenants.add.Goals as goal

call : (g : Over) (c : After-give_back-arg-1 g) → IsCall c.args.seat.now.core c.open_room-room.new.seat.core (view_of c.args.seat.now) (view_of c.open_room-room.new.seat) c.args.id c.args.node c.args.object.birth c.before_call-before.result.entries
    (λ items. not (holds c.args.object.birth c.args.object.key items)) (λ old. add_entry old c.args.object) c.open_room-room.result c.match-add.answer c.add.new.self
call g c = record {
  table = c.open_room-room.ensures.table;
  opened = c.open_room-room.ensures.opened;
  asked = asked_of c.args.seat.now.core (view_of c.args.seat.now) c.args.id c.args.node c.args.object.birth c.requires.rooms c.requires.holds c.requires.place;
  mine = refl;
  was = c.before_call-before.ensures.entries;
  heard = let hears : NodeAnswer Bool → Type 0 = λ n. Hears (λ items. not (holds c.args.object.birth c.args.object.key items)) (λ old. add_entry old c.args.object) c.open_room-room.result.place c.open_room-room.result.list n c.add.new.self in
      elim c.match-add.branch as (λ _. hears c.match-add.answer) [
        | in-Added w ↦ subst hears (sym (w.answer-is ∙ w.told-answer.ensures)) (refl, ap not w.in-Added.ensures.0, w.in-Added.ensures.1)
        | in-Exists w ↦ subst hears (sym (w.answer-is ∙ w.told-answer-in-Exists.ensures)) (refl, ap not w.in-Exists.ensures.0, w.in-Exists.ensures.1)
        | in-Worn w ↦ subst hears (sym (w.answer-is ∙ w.worn-answer.ensures)) (refl, w.in-Worn.ensures)
        | in-Memory w ↦ subst hears (sym w.answer-is) w.in-Memory.ensures.1
      ];
}

pub give_back-requires-clause-ready : goal.give_back-requires-clause-ready
give_back-requires-clause-ready g c more = call_ready (call g c) more

pub give_back-requires-clause-untouched : goal.give_back-requires-clause-untouched
give_back-requires-clause-untouched g c left = call_untouched (call g c) left

pub returns-clause-answer : goal.returns-clause-answer
returns-clause-answer g c = call_gives (call g (goal.at.returns-clause-answer g c).After-give_back-arg-1) _ c.give_back.ensures.kept c.give_back.ensures.left
