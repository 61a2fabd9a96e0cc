-- SPDX-License-Identifier: GPL-2.0-only
use Rattle.std.proofs.Common.{ℕ, ◌≤◌, subst}
use Rattle.shr_audit_rows.proofs.AskedLaws.{IsWorkerSo, adds_next, adds_start, all_said}
use Rattle.shr_audit_rows.proofs.asked.asked_of.Goals as goal

pub loop-worker-init : goal.loop-worker-init
loop-worker-init c = let s = c.args.script.now in let r = c.args.report.now in adds_start s r (λ w. IsWorkerSo s r w) c.new-asked.result.items

pub loop-worker-preserved : goal.loop-worker-preserved
loop-worker-preserved c = let s = c.args.script.now in let r = c.args.report.now in
    adds_next s r (λ w. IsWorkerSo s r w) c.new-asked.result.items c.loop-worker.asked.items c.add_worker.new.asked.items c.loop-worker.worker c.loop-worker.invariant c.in_ok-add_worker.ensures

pub returns : goal.returns
returns c = all_said c.args.script.now c.args.report.now c.new-asked.result.items c.loop-worker.asked.items c.loop-worker.worker c.new-asked.ensures.items
    (subst (λ (n : ℕ). n ≤ c.loop-worker.worker) c.len-worker-end.ensures c.loop-worker-test.false) c.loop-worker.invariant
