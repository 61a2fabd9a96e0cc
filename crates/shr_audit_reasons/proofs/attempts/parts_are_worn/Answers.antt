-- SPDX-License-Identifier: GPL-2.0-only
use Rattle.shr_audit_reasons.proofs.Common.{ℕ, List, subst, sym, WorkerPart, Script, WalkRecord, EachItem, all_at, more_at, Report, EachAttempt, IsAttemptCaused}
use Rattle.shr_audit_reasons.proofs.attempts.parts_are_worn.Goals as goal

abbrev walks : Script → Report → ℕ → List WalkRecord → Type 0
walks s r worker xs = EachItem (λ w. EachAttempt w (λ a. IsAttemptCaused s r worker a)) xs

abbrev part : Script → Report → ℕ → WorkerPart → Type 0
part s r worker p = walks s r worker p.walks.items

pub loop-worker-preserved : goal.loop-worker-preserved
loop-worker-preserved c = more_at (part c.args.script.now c.args.report.now) c.args.parts.now c.loop-worker.worker c.index-parts-worker.result c.loop-worker-test.true c.index-parts-worker.is c.loop-worker.invariant
    (subst (part c.args.script.now c.args.report.now c.loop-worker.worker) (sym c.index-parts-worker.is)
    (subst (walks c.args.script.now c.args.report.now c.loop-worker.worker) c.as_slice.ensures (c.walks_are_worn.ensures.0 c.if-not-walks_are_worn.false)))

pub returns : goal.returns
returns c = all_at (part c.args.script.now c.args.report.now) c.args.parts.now c.loop-worker.worker c.loop-worker-test.false c.loop-worker.invariant
