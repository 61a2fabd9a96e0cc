-- SPDX-License-Identifier: GPL-2.0-only
use Rattle.shr_audit_replies.proofs.Common.{◌≡◌, ℕ, List, Some, slice_get, subst, sym, WorkerPart, Answered, Command, Script, more_at, all_at, Report, command_at, serial_of, IsAnswered}
use Rattle.shr_audit_replies.proofs.answered.are_workers_answered.Goals as goal

abbrev answers : Script → Report → ℕ → List Answered → Type 0
answers s r worker xs = (n : ℕ) (a : Answered) → slice_get xs n ≡ Some a → (c : Command) → command_at s (serial_of worker n) ≡ Some c → IsAnswered s r (serial_of worker n) c a

abbrev part : Script → Report → ℕ → WorkerPart → Type 0
part s r worker p = answers s r worker p.answers.items

pub loop-worker-preserved : goal.loop-worker-preserved
loop-worker-preserved c = more_at (part c.args.script.now c.args.report.now) c.args.parts.now c.loop-worker.worker c.index-parts-worker.result c.loop-worker-test.true c.index-parts-worker.is c.loop-worker.invariant
    (subst (part c.args.script.now c.args.report.now c.loop-worker.worker) (sym c.index-parts-worker.is)
    (subst (answers c.args.script.now c.args.report.now c.loop-worker.worker) c.as_slice.ensures (c.is_worker_answered.ensures.0 c.if-not-is_worker_answered.false)))

pub returns : goal.returns
returns c = all_at (part c.args.script.now c.args.report.now) c.args.parts.now c.loop-worker.worker c.loop-worker-test.false c.loop-worker.invariant
