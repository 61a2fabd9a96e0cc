-- SPDX-License-Identifier: GPL-2.0-only
use Rattle.std.proofs.Common.{ℕ, ◌≤◌, refl, subst, ◌∙◌}
use Rattle.shr_audit_reasons.proofs.Noting.{next_worker}
use Rattle.shr_audit_reasons.proofs.cites.note_worker.Goals as goal

pub loop-number-init : goal.loop-number-init
loop-number-init c = record { count = refl; noted = λ h. h }

pub loop-number-preserved : goal.loop-number-preserved
loop-number-preserved c = record {
  count = c.note_answer.ensures.count ∙ c.loop-number.invariant.count;
  noted = λ h. c.note_answer.ensures.noted (c.loop-number.invariant.noted h);
}

pub returns : goal.returns
returns c = record {
  count = c.loop-number.invariant.count;
  noted = λ h. next_worker c.args.script.now c.args.report.now c.args.what c.args.worker c.loop-number.number c.loop-number.table.items
      (subst (λ (k : ℕ). k ≤ c.loop-number.number) c.count_answers-number-end.ensures c.loop-number-test.false) (c.loop-number.invariant.noted h);
}
