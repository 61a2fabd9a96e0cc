-- SPDX-License-Identifier: GPL-2.0-only
use Rattle.std.proofs.Common.{ℕ, ◌≤◌, subst}
use Rattle.shr_audit_fresh.proofs.RefusedLaws.{shown_end, shown_next, shown_start}
use Rattle.shr_audit_fresh.proofs.refused.note_answers.Goals as goal

pub loop-number-init : goal.loop-number-init
loop-number-init c = λ blank. shown_start c.args.report.now c.args.worker c.args.firsts.now blank

pub loop-number-preserved : goal.loop-number-preserved
loop-number-preserved c = λ blank. shown_next c.args.report.now c.args.worker c.loop-number.number c.offline_at-group.result c.cited_by.result c.loop-number.firsts c.note.new.firsts
    c.offline_at-group.ensures c.cited_by.ensures c.in_ok-note.ensures (c.loop-number.invariant blank)

pub returns : goal.returns
returns c = λ blank. shown_end c.args.report.now c.args.worker c.loop-number.number c.loop-number.firsts (subst (λ (n : ℕ). n ≤ c.loop-number.number) c.count_answers-number-end.ensures c.loop-number-test.false) (c.loop-number.invariant blank)
