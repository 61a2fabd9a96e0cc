-- SPDX-License-Identifier: GPL-2.0-only
use Rattle.shr_walk.proofs.ChargingCommon.{◌-◌, ◌≤◌, sym, subst, arith, ChargeAnswer, depth_of, WorkerState, Shared, same_for, same_then, AllMade, FirstMade, RefusedThere, WalksFirst, due_in, IsChargeTried, Refusal}
use Rattle.shr_walk.proofs.Calling.{charges_few, visited_calls}
use Rattle.shr_walk.proofs.Tried.{HasTried, tried_first, tried_more, tried_cut, short_gives, none_gives}
use Rattle.shr_walk.proofs.VisitsMade.{first_whole}
use Rattle.shr_walk.proofs.charging.charge_in_rounds.Goals as goal

pub returns-in_err-answer-clause-admitted : goal.returns-in_err-answer-clause-admitted
returns-in_err-answer-clause-admitted g c = let w = c.args.worker.now in none_gives w.shared w.by c.args.group c.from_residual.result w.state c.charge_once.new.worker.state c.from_residual.ensures.0 c.in_err-answer.ensures.left

pub loop-priority-init : goal.loop-priority-init
loop-priority-init g c = let e = c.in_ok-answer.ensures in let w = c.args.worker.now in record {
  tried = tried_first w.shared w.by c.args.group c.in_ok-answer.answer w.state c.charge_once.new.worker.state e.tried;
  there = e.there;
  room = e.room;
  same = e.same;
}

pub returns-in_err-walk_round-in-Over-clause-admitted : goal.returns-in_err-walk_round-in-Over-clause-admitted
returns-in_err-walk_round-in-Over-clause-admitted g c = let inv = c.loop-priority.invariant in let w = c.args.worker.now in let b = c.loop-priority.worker in let x = w.shared in let n = c.loop-priority.priority in
    let r : Refusal = record { group = c.in-Over.over; operation = c.in-Over.operation; usage = c.in-Over.usage } in
    let s = w.state in let t = b.state in let u = c.walk_round.new.worker.state in
    let did = same_for (λ y e. FirstMade y e (due_in y (n - 1) c.in-Over.over) t u) w b inv.same c.in_err-walk_round-in-Over.ensures.first in
    let tried = subst (λ (a : ChargeAnswer). HasTried x w.by c.args.group n a s t) c.in-Over.is inv.tried in
    short_gives x w.by c.args.group c.from_residual-in_err-walk_round-in-Over.result s u c.from_residual-in_err-walk_round-in-Over.ensures.0
    (tried_cut x w.by c.args.group n r did.0 s t u c.loop-priority-test.true tried did.1)

pub charge_once-requires-in-loop-priority-clause-calls : goal.charge_once-requires-in-loop-priority-clause-calls
charge_once-requires-in-loop-priority-clause-calls g c = let inv = c.loop-priority.invariant in let w = c.args.worker.now in let b = c.loop-priority.worker in let x = w.shared in let n = c.loop-priority.priority in
    let t = b.state in let u = c.walk_round.new.worker.state in
    let did = same_for (λ y e. AllMade y e (due_in y (n - 1) c.in-Over.over) t u) w b inv.same c.in_ok-walk_round-in-Over.ensures.all in
    let before = charges_few w.state.uses c.requires.calls in
    let so_far = inv.tried.calls.charges in
    let walked = (visited_calls x w.by did.0 t u did.1.visited).charges in
    omega (arith, before, so_far, walked, c.loop-priority-test.true)

pub returns-in_err-answer-2-clause-admitted : goal.returns-in_err-answer-2-clause-admitted
returns-in_err-answer-2-clause-admitted g c = let inv = c.loop-priority.invariant in let w = c.args.worker.now in let b = c.loop-priority.worker in let x = w.shared in let n = c.loop-priority.priority in
    let r : Refusal = record { group = c.in-Over.over; operation = c.in-Over.operation; usage = c.in-Over.usage } in
    let s = w.state in let t = b.state in let u = c.walk_round.new.worker.state in
    let did = same_for (λ y e. AllMade y e (due_in y (n - 1) c.in-Over.over) t u) w b inv.same c.in_ok-walk_round-in-Over.ensures.all in
    let tried = subst (λ (a : ChargeAnswer). HasTried x w.by c.args.group n a s t) c.in-Over.is inv.tried in
    let whole = first_whole x w.by (due_in x (n - 1) r.group) did.0 t u did.1 in
    let left = subst (λ (v : WorkerState). WalksFirst x w.by (due_in x (n - 1) r.group) did.0 t v) (sym c.in_err-answer-2.ensures.left) whole in
    short_gives x w.by c.args.group c.from_residual-in_err-answer-2.result s c.charge_once-in-loop-priority.new.worker.state c.from_residual-in_err-answer-2.ensures.0
    (tried_cut x w.by c.args.group n r did.0 s t c.charge_once-in-loop-priority.new.worker.state c.loop-priority-test.true tried left)

pub loop-priority-preserved : goal.loop-priority-preserved
loop-priority-preserved g c = let inv = c.loop-priority.invariant in let w = c.args.worker.now in let b = c.loop-priority.worker in let x = w.shared in let n = c.loop-priority.priority in
    let r : Refusal = record { group = c.in-Over.over; operation = c.in-Over.operation; usage = c.in-Over.usage } in
    let s = w.state in let t = b.state in let u = c.walk_round.new.worker.state in
    let did = same_for (λ y e. AllMade y e (due_in y (n - 1) c.in-Over.over) t u) w b inv.same c.in_ok-walk_round-in-Over.ensures.all in let e = c.in_ok-answer-2.ensures in
    let tried = subst (λ (a : ChargeAnswer). HasTried x w.by c.args.group n a s t) c.in-Over.is inv.tried in
    let mid = c.walk_round.new.worker in let last = c.charge_once-in-loop-priority.new.worker in let kept = same_then w b mid inv.same c.walk_round.ensures.same in
    record {
      tried = tried_more x w.by c.args.group n r did.0 s t u c.loop-priority-test.true tried c.in_ok-answer-2.answer last.state did.1 (same_for (λ y f. IsChargeTried y f c.args.group c.in_ok-answer-2.answer u last.state) w mid kept e.tried);
      there = subst (λ (y : Shared). RefusedThere y c.in_ok-answer-2.answer) kept.shared e.there;
      room = subst (λ (y : Shared). depth_of y.charge.shape.parents.items c.args.group ≤ last.use_room) kept.shared e.room;
      same = same_then w mid last kept e.same;
    }
