-- SPDX-License-Identifier: GPL-2.0-only
use Rattle.shr_walk.proofs.ChargingCommon.{◌≡◌, ℕ, ◌+◌, ◌<◌, List, ◌++◌, length, sym, ap, subst, ◌∙◌, arith, append_assoc, All, Result, Ok, Err, Memory, IsTree, preorder_of, Job, groups_in, shape_of, Shared, same_for, same_then, AllMade, FirstMade, jobs_on, Visit, WalksAll, WalksFirst, due_in, OnErr}
use Rattle.shr_walk.proofs.ChargeRanging.{jobs_to, jobs_from, jobs_more, jobs_parted, jobs_all, order_within}
use Rattle.shr_walk.proofs.VisitsMade.{all_then, first_then}
use Rattle.shr_walk.proofs.rounds.walk_round.Goals as goal

on_error : (r : Result (Unit {0}) Memory) (P : Type 0) → P → OnErr r P
on_error (Ok u) P p = tt
on_error (Err e) P p = p

pub walk_node-requires-clause-groups : goal.walk_node-requires-clause-groups
walk_node-requires-clause-groups g c = let w = c.args.worker.now in let x = w.shared in let tree : IsTree x.tree.parents = subst IsTree c.preorder.ensures.shared.parents x.core.tree in
    subst (λ (y : Shared). All (λ (h : ℕ). h < groups_in (shape_of y.core)) c.as_slice-groups.result.now) (sym c.loop-node.invariant.same.shared)
    (subst (λ (l : List ℕ). All (λ (h : ℕ). h < groups_in (shape_of x.core)) l) (sym (c.as_slice-groups.ensures ∙ c.in_ok-order.ensures.order))
    (subst (λ (ps : List ℕ). All (λ (h : ℕ). h < length ps) (preorder_of x.tree.parents c.args.group)) (sym c.preorder.ensures.shared.parents)
    (order_within x.tree.parents tree c.args.group (subst (λ (ps : List ℕ). c.args.group < length ps) c.preorder.ensures.shared.parents c.requires.group))))

pub loop-node-preserved : goal.loop-node-preserved
loop-node-preserved g c = let inv = c.loop-node.invariant in let w = c.args.worker.now in let x = w.shared in let n = c.loop-node.node in let p = c.args.priority in
    let b = c.loop-node.worker in let s = w.state in let t = b.state in let u = c.walk_node.new.worker.state in
    let did = same_for (λ y e. AllMade y e (jobs_on n p c.as_slice-groups.result.now) t u) w b inv.same c.in_ok-walk_node.ensures.all in let on = jobs_on n p (preorder_of x.tree.parents c.args.group) in
    let more = subst (λ (l : List ℕ). WalksAll x w.by (jobs_on n p l) did.0 t u) (c.as_slice-groups.ensures ∙ c.in_ok-order.ensures.order) did.1 in
    let low : n < (shape_of x.core).nodes = omega (arith, c.loop-node-test.true, c.nodes-node-end.ensures) in
    record {
      walked = (inv.walked.0 ++ did.0, subst (λ (l : List Job). WalksAll x w.by l (inv.walked.0 ++ did.0) s u) (sym (jobs_more x p c.args.group n low)) (all_then x w.by (jobs_to x p c.args.group n) on inv.walked.0 did.0 s t u inv.walked.1 more));
      same = same_then w b c.walk_node.new.worker inv.same c.walk_node.ensures.same;
    }

pub returns-in_err-walk_node-clause-first : goal.returns-in_err-walk_node-clause-first
returns-in_err-walk_node-clause-first g c = let inv = c.loop-node.invariant in let w = c.args.worker.now in let x = w.shared in let n = c.loop-node.node in let p = c.args.priority in
    let b = c.loop-node.worker in let s = w.state in let t = b.state in let u = c.walk_node.new.worker.state in
    let did = same_for (λ y e. FirstMade y e (jobs_on n p c.as_slice-groups.result.now) t u) w b inv.same c.in_err-walk_node.ensures.first in let on = jobs_on n p (preorder_of x.tree.parents c.args.group) in
    let more = subst (λ (l : List ℕ). WalksFirst x w.by (jobs_on n p l) did.0 t u) (c.as_slice-groups.ensures ∙ c.in_ok-order.ensures.order) did.1 in
    let low : n < (shape_of x.core).nodes = omega (arith, c.loop-node-test.true, c.nodes-node-end.ensures) in
    let behind = jobs_from x p c.args.group (n + 1) in
    let parted = jobs_parted x p c.args.group (n + 1) ∙ (ap (λ (l : List Job). l ++ behind) (jobs_more x p c.args.group n low) ∙ append_assoc (jobs_to x p c.args.group n) on behind) in
    on_error c.from_residual-in_err-walk_node.result ((walks : List Visit) × WalksFirst x w.by (due_in x p c.args.group) walks s u)
    (inv.walked.0 ++ did.0, subst (λ (l : List Job). WalksFirst x w.by l (inv.walked.0 ++ did.0) s u) (sym parted) (first_then x w.by (jobs_to x p c.args.group n) on behind inv.walked.0 did.0 s t u inv.walked.1 more))

pub returns-clause-all : goal.returns-clause-all
returns-clause-all g c = let inv = c.loop-node.invariant in let w = c.args.worker.now in let x = w.shared in let p = c.args.priority in
    let s = w.state in let t = c.loop-node.worker.state in
    let end : c.loop-node.node ≡ (shape_of x.core).nodes = omega (arith, c.loop-node-test.false, c.loop-node.auto.node-end, c.nodes-node-end.ensures) in
    (inv.walked.0, subst (λ (l : List Job). WalksAll x w.by l inv.walked.0 s t) (ap (jobs_to x p c.args.group) end ∙ sym (jobs_all x p c.args.group)) inv.walked.1)
