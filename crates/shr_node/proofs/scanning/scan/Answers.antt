-- SPDX-License-Identifier: GPL-2.0-only
use Rattle.shr_node.proofs.Common.{sym, ap, subst, ◌∙◌, Spent, Core, Room, Seated, view_of, shape_of, IsRoomReady, IsUntouched, ScanGives}
use Rattle.shr_node.specs.declared.answers.NodeScan.{NodeScan}
use Rattle.shr_node.specs.declared.answers.NodeScan.TheVariants as node
use Rattle.shr_node.proofs.Acting.{bare_hands, grown, stayed, not_grown, not_left}
use Rattle.shr_node.proofs.Places.{IsOwnTaken, own_taken, own_untouched, scan_ready, scan_made, scan_closed, scan_worn, scan_lacks}
use Rattle.shr_node.proofs.scanning.scan.Goals.{in-Scanned, in-Closed, in-Worn, in-Memory}
use Rattle.shr_node.proofs.scanning.scan.Goals as goal

pub take_room-room-requires-clause-rooms : goal.take_room-room-requires-clause-rooms
take_room-room-requires-clause-rooms g c = bare_hands (shape_of c.args.seat.now.core) (view_of c.args.seat.now) c.args.place c.requires.rooms

pub give_back-requires-clause-ready : goal.give_back-requires-clause-ready
give_back-requires-clause-ready g c more = let room : Room = c.take_room-room.result in let e = c.take_room-room.ensures in let t : IsOwnTaken (shape_of c.args.seat.now.core) (view_of c.args.seat.now) (view_of c.take_room-room.new.self) c.args.place room = own_taken c.args.seat.now.core (view_of c.args.seat.now) (view_of c.take_room-room.new.self) c.args.place room c.requires.rooms c.requires.place e.place (ap view_of e.taken) e.told in
    subst (λ (x : Core). IsRoomReady (shape_of x) (view_of c.take_room-room.new.self) (record { place = room.place; list = c.scan.new.self })) (sym (ap (λ (s : Seated). s.core) e.taken))
    (elim c.match-scan.branch as (λ _. IsRoomReady (shape_of c.args.seat.now.core) (view_of c.take_room-room.new.self) (record { place = room.place; list = c.scan.new.self })) [
      | in-Scanned w ↦ scan_ready _ _ _ _ room t c.scan.new.self c.args.request.worker c.args.request.walk c.args.request.policy c.args.request.asked c.requires.holds w.in-Scanned.entry w.in-Scanned.ensures.answer.1
      | in-Closed w ↦ not_grown _ _ _ c.before_call-before.ensures.entries w.in-Closed.ensures.answer.same more
      | in-Worn w ↦ not_grown _ _ _ c.before_call-before.ensures.entries w.in-Worn.ensures.answer.same more
      | in-Memory w ↦ not_grown _ _ _ c.before_call-before.ensures.entries w.in-Memory.ensures.answer.same more
    ])

pub give_back-requires-clause-untouched : goal.give_back-requires-clause-untouched
give_back-requires-clause-untouched g c left = let room : Room = c.take_room-room.result in let e = c.take_room-room.ensures in let t : IsOwnTaken (shape_of c.args.seat.now.core) (view_of c.args.seat.now) (view_of c.take_room-room.new.self) c.args.place room = own_taken c.args.seat.now.core (view_of c.args.seat.now) (view_of c.take_room-room.new.self) c.args.place room c.requires.rooms c.requires.place e.place (ap view_of e.taken) e.told in
    subst (λ (x : Core). IsUntouched (shape_of x) (view_of c.take_room-room.new.self) (record { place = room.place; list = c.scan.new.self })) (sym (ap (λ (s : Seated). s.core) e.taken))
    (elim c.match-scan.branch as (λ _. IsUntouched (shape_of c.args.seat.now.core) (view_of c.take_room-room.new.self) (record { place = room.place; list = c.scan.new.self })) [
      | in-Scanned w ↦ not_left _ _ _ _ _ c.before_call-before.ensures.entries w.in-Scanned.ensures.answer.1 left
      | in-Closed w ↦ own_untouched _ _ _ _ room t c.scan.new.self w.in-Closed.ensures.answer.same
      | in-Worn w ↦ own_untouched _ _ _ _ room t c.scan.new.self w.in-Worn.ensures.answer.same
      | in-Memory w ↦ own_untouched _ _ _ _ room t c.scan.new.self w.in-Memory.ensures.answer.same
    ])

pub returns-clause-answer : goal.returns-clause-answer
returns-clause-answer g c = let room : Room = c.take_room-room.result in let e = c.take_room-room.ensures in let t : IsOwnTaken (shape_of c.args.seat.now.core) (view_of c.args.seat.now) (view_of c.take_room-room.new.self) c.args.place room = own_taken c.args.seat.now.core (view_of c.args.seat.now) (view_of c.take_room-room.new.self) c.args.place room c.requires.rooms c.requires.place e.place (ap view_of e.taken) e.told in
    let gives : NodeScan → Type 0 = λ n. ScanGives (shape_of c.args.seat.now.core) (view_of c.args.seat.now) c.args.place c.args.request.worker c.args.request.walk c.args.request.policy c.args.request.asked n (view_of c.give_back.new.seat) in
    elim c.match-scan.branch as (λ _. gives c.match-scan.answer) [
      | in-Scanned w ↦ subst gives (sym w.answer-is)
          (scan_made _ _ _ _ room t c.scan.new.self c.args.request.worker c.args.request.walk c.args.request.policy c.args.request.asked _ w.in-Scanned.entry w.in-Scanned.freed.items w.in-Scanned.visits w.in-Scanned.stopped w.in-Scanned.ensures.answer.0 w.in-Scanned.ensures.answer.1 (c.give_back.ensures.kept (grown _ _ _ _ _ c.before_call-before.ensures.entries w.in-Scanned.ensures.answer.1)))
      | in-Closed w ↦ subst gives (sym w.answer-is) (scan_closed _ _ _ _ room t c.scan.new.self c.args.request.worker c.args.request.walk c.args.request.policy c.args.request.asked _ w.in-Closed.ensures.answer (c.give_back.ensures.left (stayed _ _ _ c.before_call-before.ensures.entries w.in-Closed.ensures.answer.same)))
      | in-Worn w ↦ subst gives (sym (w.answer-is ∙ ap (λ (s : Spent). node.Worn s) w.list_spent.ensures))
          (scan_worn _ _ _ _ room t c.scan.new.self c.args.request.worker c.args.request.walk c.args.request.policy c.args.request.asked _ w.in-Worn.entries w.in-Worn.items w.in-Worn.ensures.answer (c.give_back.ensures.left (stayed _ _ _ c.before_call-before.ensures.entries w.in-Worn.ensures.answer.same)))
      | in-Memory w ↦ subst gives (sym w.answer-is) (scan_lacks _ _ _ _ room t c.scan.new.self c.args.request.worker c.args.request.walk c.args.request.policy c.args.request.asked _ w.in-Memory.ensures.answer (c.give_back.ensures.left (stayed _ _ _ c.before_call-before.ensures.entries w.in-Memory.ensures.answer.same)))
    ]
