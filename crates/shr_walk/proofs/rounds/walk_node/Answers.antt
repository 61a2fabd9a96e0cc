-- SPDX-License-Identifier: GPL-2.0-only
use Rattle.shr_walk.proofs.ChargingCommon.{ℕ, ◌+◌, ◌<◌, List, ◌++◌, ◌∷◌, [], false, take, drop, get_or, refl, sym, subst, ◌∙◌, arith, Job, job, groups_in, shape_of, Shared, same_then, jobs_on, Visit, WalksAll, WalksFirst, All-get_or, same_none}
use Rattle.shr_walk.proofs.ChargeRanging.{on_more, on_parted}
use Rattle.shr_walk.proofs.VisitsMade.{none_walked, all_more, first_cut, visited_same}
use Rattle.shr_walk.proofs.rounds.walk_node.Goals as goal

pub walk_one-answer-requires-clause-place : goal.walk_one-answer-requires-clause-place
walk_one-answer-requires-clause-place g c = let inv = c.loop-group.invariant in let i = c.loop-group.group-index in
    subst (λ (x : Shared). (c.args.node < (shape_of x.core).nodes) × (get_or c.args.groups.now i 0 < groups_in (shape_of x.core))) (sym inv.same.shared)
    (c.requires.node, All-get_or (λ (h : ℕ). h < groups_in (shape_of c.args.worker.now.shared.core)) c.args.groups.now i 0 (omega (arith, c.loop-group-test.true)) c.requires.groups)

pub loop-group-init : goal.loop-group-init
loop-group-init g c = record {
  groups = refl;
  walked = ([], none_walked c.args.worker.now.shared c.args.worker.now.by c.args.worker.now.state);
  same = same_none c.args.worker.now;
}

pub loop-group-preserved : goal.loop-group-preserved
loop-group-preserved g c = let inv = c.loop-group.invariant in let w = c.args.worker.now in let b = c.loop-group.worker in let last = c.walk_one-answer.new.worker in let i = c.loop-group.group-index in let a = c.walk_one-answer.result in
    let node = c.args.node in let p = c.args.priority in let gs = c.args.groups.now in
    let v : Visit = record { job = job (get_or gs i 0) node p false; answer = a; after = last.state } in
    record {
      groups = inv.groups;
      walked = (
        inv.walked.0 ++ v ∷ [],
        subst (λ (l : List Job). WalksAll w.shared w.by l (inv.walked.0 ++ v ∷ []) w.state last.state) (sym (on_more node p gs i c.loop-group-test.true))
            (all_more w.shared w.by (jobs_on node p (take i gs)) inv.walked.0 v w.state b.state inv.walked.1 (visited_same w b v inv.same c.walk_one-answer.ensures.walked) (sym c.is_short.ensures ∙ c.if-is_short.false)),
      );
      same = same_then w b last inv.same c.walk_one-answer.ensures.same;
    }

pub returns-then-is_short-clause-first : goal.returns-then-is_short-clause-first
returns-then-is_short-clause-first g c = let inv = c.loop-group.invariant in let w = c.args.worker.now in let b = c.loop-group.worker in let last = c.walk_one-answer.new.worker in let i = c.loop-group.group-index in let a = c.walk_one-answer.result in
    let node = c.args.node in let p = c.args.priority in let gs = c.args.groups.now in
    let v : Visit = record { job = job (get_or gs i 0) node p false; answer = a; after = last.state } in (
      inv.walked.0 ++ v ∷ [],
      subst (λ (l : List Job). WalksFirst w.shared w.by l (inv.walked.0 ++ v ∷ []) w.state last.state) (sym (on_parted node p gs i c.loop-group-test.true))
          (first_cut w.shared w.by (jobs_on node p (take i gs)) (jobs_on node p (drop (i + 1) gs)) inv.walked.0 v w.state b.state inv.walked.1 (visited_same w b v inv.same c.walk_one-answer.ensures.walked) (sym c.is_short.ensures ∙ c.if-is_short.true)),
    )
