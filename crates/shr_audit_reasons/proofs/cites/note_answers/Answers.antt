-- SPDX-License-Identifier: GPL-2.0-only
use Rattle.shr_audit_reasons.proofs.Common.{ℕ, ◌≤◌, subst, ◌∙◌, AreCited}
use Rattle.shr_audit_reasons.proofs.Noting.{first_worker, last_worker}
use Rattle.shr_audit_reasons.proofs.cites.note_answers.Goals as goal

pub loop-worker-init : goal.loop-worker-init
loop-worker-init c = record {
  count = c.in_ok-table.ensures.count;
  noted = first_worker c.args.script.now c.args.report.now c.args.what c.args.size c.in_ok-table.table.items c.in_ok-table.ensures;
}

pub loop-worker-preserved : goal.loop-worker-preserved
loop-worker-preserved c = record {
  count = c.note_worker.ensures.count ∙ c.loop-worker.invariant.count;
  noted = c.note_worker.ensures.noted c.loop-worker.invariant.noted;
}

pub returns : goal.returns
returns c = subst (λ (size : ℕ). AreCited c.args.script.now c.args.report.now c.args.what size c.loop-worker.table.items) c.loop-worker.invariant.count
    (last_worker c.args.script.now c.args.report.now c.args.what c.loop-worker.worker c.loop-worker.table.items (subst (λ (k : ℕ). k ≤ c.loop-worker.worker) c.len-worker-end.ensures c.loop-worker-test.false) c.loop-worker.invariant.noted)
