-- SPDX-License-Identifier: GPL-2.0-only
use Rattle.shr_audit_tables.proofs.LookupsCommon.{Decides, ◌≡◌, ℕ, List, Some, slice_get, subst, sym, WorkerPart, Answered, Script, more_at, all_at, Report, IsFindAt}
use Rattle.shr_audit_tables.proofs.found.are_parts_right.Goals as goal
use Rattle.shr_audit_formed.proofs.Eachs.{one_fails}

abbrev answers : Script → Report → ℕ → List Answered → Type 0
answers s r worker xs = (n : ℕ) (a : Answered) → slice_get xs n ≡ Some a → IsFindAt s r worker n a

abbrev part : Script → Report → ℕ → WorkerPart → Type 0
part s r worker p = answers s r worker p.answers.items

pub returns-then-not-are_finds_right : goal.returns-then-not-are_finds_right
returns-then-not-are_finds_right c =
    let s = c.args.script.now in
    let r = c.args.report.now in
    let k = c.loop-worker.worker in
    let p = c.index-parts-worker.result in
    let b = c.are_finds_right.result in
    let here : Decides b (part s r k p) = subst (λ (q : WorkerPart). Decides b (part s r k q)) (sym c.index-parts-worker.is) (subst (λ (xs : List Answered). Decides b (answers s r k xs)) c.as_slice.ensures c.are_finds_right.ensures) in
    one_fails (part s r) c.args.parts.now k p b c.loop-worker-test.true c.index-parts-worker.is here c.if-not-are_finds_right.true

pub loop-worker-preserved : goal.loop-worker-preserved
loop-worker-preserved c = more_at (part c.args.script.now c.args.report.now) c.args.parts.now c.loop-worker.worker c.index-parts-worker.result c.loop-worker-test.true c.index-parts-worker.is c.loop-worker.invariant
    (subst (part c.args.script.now c.args.report.now c.loop-worker.worker) (sym c.index-parts-worker.is)
    (subst (answers c.args.script.now c.args.report.now c.loop-worker.worker) c.as_slice.ensures (c.are_finds_right.ensures.0 c.if-not-are_finds_right.false)))

pub returns : goal.returns
returns c = all_at (part c.args.script.now c.args.report.now) c.args.parts.now c.loop-worker.worker c.loop-worker-test.false c.loop-worker.invariant
