-- SPDX-License-Identifier: GPL-2.0-only
use Rattle.shr_audit_reasons.proofs.SpentCommon.{◌≡◌, ℕ, List, Some, slice_get, length, refl, subst, sym, Decides, slice_get_read, WorkerPart, Script, WalkRecord, EachItem, fails, Report, EachAttempt, IsRunCaused, all_at, more_at}
use Rattle.shr_audit_reasons.proofs.passes.are_parts_caused.Goals as goal

abbrev walks : Script → Report → ℕ → List WalkRecord → Type 0
walks s r worker xs = EachItem (λ w. EachAttempt w (λ a. IsRunCaused s r worker w a)) xs

abbrev part : Script → Report → ℕ → WorkerPart → Type 0
part s r worker p = walks s r worker p.walks.items

pub returns-then-not-are_walks_caused : goal.returns-then-not-are_walks_caused
returns-then-not-are_walks_caused c =
    let s = c.args.script.now in
    let r = c.args.report.now in
    let ps = c.args.parts.now in
    let k = c.loop-worker.worker in
    let p = c.index-parts-worker.result in
    let b = c.are_walks_caused.result in
    let here : Decides b (part s r k p) = subst (λ (q : WorkerPart). Decides b (part s r k q)) (sym c.index-parts-worker.is) (subst (λ (ws : List WalkRecord). Decides b (walks s r k ws)) c.as_slice.ensures c.are_walks_caused.ensures) in
    fails (part s r k p) ((n : ℕ) (q : WorkerPart) → slice_get ps n ≡ Some q → part s r n q) b here c.if-not-are_walks_caused.true (λ all. all k p (slice_get_read ps (length ps) k p refl c.loop-worker-test.true c.index-parts-worker.is))

pub loop-worker-preserved : goal.loop-worker-preserved
loop-worker-preserved c = more_at (part c.args.script.now c.args.report.now) c.args.parts.now c.loop-worker.worker c.index-parts-worker.result c.loop-worker-test.true c.index-parts-worker.is c.loop-worker.invariant
    (subst (part c.args.script.now c.args.report.now c.loop-worker.worker) (sym c.index-parts-worker.is)
    (subst (walks c.args.script.now c.args.report.now c.loop-worker.worker) c.as_slice.ensures (c.are_walks_caused.ensures.0 c.if-not-are_walks_caused.false)))

pub returns : goal.returns
returns c = all_at (part c.args.script.now c.args.report.now) c.args.parts.now c.loop-worker.worker c.loop-worker-test.false c.loop-worker.invariant
