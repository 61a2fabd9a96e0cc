-- SPDX-License-Identifier: GPL-2.0-only
use Rattle.shr_audit_tables.proofs.LookupsCommon.{◌≡◌, ℕ, List, Some, slice_get, length, refl, subst, sym, Decides, slice_get_read, WorkerPart, WalkRecord, EachItem, all_at, fails, more_at, Report, EachAttempt, IsMetRight}
use Rattle.shr_audit_tables.proofs.met.are_parts_right.Goals as goal

abbrev walks : Report → List WalkRecord → Type 0
walks r xs = EachItem (λ w. EachAttempt w (IsMetRight r)) xs

abbrev part : Report → ℕ → WorkerPart → Type 0
part r worker p = walks r p.walks.items

pub returns-then-not-are_walks_right : goal.returns-then-not-are_walks_right
returns-then-not-are_walks_right c =
    let r = c.args.report.now in
    let ps = c.args.parts.now in
    let k = c.loop-worker.worker in
    let p = c.index-parts-worker.result in
    let b = c.are_walks_right.result in
    let here : Decides b (part r k p) = subst (λ (q : WorkerPart). Decides b (part r k q)) (sym c.index-parts-worker.is) (subst (λ (ws : List WalkRecord). Decides b (walks r ws)) c.as_slice.ensures c.are_walks_right.ensures) in
    fails (part r k p) ((n : ℕ) (q : WorkerPart) → slice_get ps n ≡ Some q → part r n q) b here c.if-not-are_walks_right.true (λ all. all k p (slice_get_read ps (length ps) k p refl c.loop-worker-test.true c.index-parts-worker.is))

pub loop-worker-preserved : goal.loop-worker-preserved
loop-worker-preserved c = more_at (part c.args.report.now) c.args.parts.now c.loop-worker.worker c.index-parts-worker.result c.loop-worker-test.true c.index-parts-worker.is c.loop-worker.invariant
    (subst (part c.args.report.now c.loop-worker.worker) (sym c.index-parts-worker.is)
    (subst (walks c.args.report.now) c.as_slice.ensures (c.are_walks_right.ensures.0 c.if-not-are_walks_right.false)))

pub returns : goal.returns
returns c = all_at (part c.args.report.now) c.args.parts.now c.loop-worker.worker c.loop-worker-test.false c.loop-worker.invariant
