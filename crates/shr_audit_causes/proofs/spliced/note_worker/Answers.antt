-- SPDX-License-Identifier: GPL-2.0-only
use Rattle.shr_audit_causes.proofs.OfflinesCommon.{◌≤◌, ℕ, List, Bool, inl, inr, subst, sym, arith, cases_lt, upto_more, AddsSpliced, HasSpliced}
use Rattle.shr_audit_causes.proofs.SplicedLaws.{adds_next, adds_none, adds_then, has_next, has_still, past_spliced}
use Rattle.shr_audit_causes.proofs.spliced.note_worker.Goals as goal

pub loop-number-init : goal.loop-number-init
loop-number-init c = record { adds = adds_none c.args.script.now c.args.report.now c.args.spliced.now.items; noted = λ k lt. absurd (omega (arith, lt)) }

pub loop-number-preserved : goal.loop-number-preserved
loop-number-preserved c =
    let s = c.args.script.now in
    let r = c.args.report.now in
    let w = c.args.worker in
    let n = c.loop-number.number in
    let table = c.loop-number.spliced.items in
    let new = c.note.new.spliced.items in
    let o = c.splices_at-group.result in
    let is = sym c.note.ensures in
    let adds : AddsSpliced s r table new = subst (λ (xs : List Bool). AddsSpliced s r table xs) is (adds_next s r w n table o c.splices_at-group.ensures) in
    record {
      adds = adds_then s r c.args.spliced.now.items table new c.loop-number.invariant.adds adds;
      noted = upto_more (λ k. HasSpliced s r new w k) n (λ k lt. has_still s r w k table new adds (c.loop-number.invariant.noted k lt)) (subst (λ (xs : List Bool). HasSpliced s r xs w n) is (has_next s r w n table o c.splices_at-group.ensures));
    }

pub returns : goal.returns
returns c =
    let s = c.args.script.now in
    let r = c.args.report.now in
    let w = c.args.worker in
    let n = c.loop-number.number in
    let over = subst (λ (k : ℕ). k ≤ n) c.count_answers-number-end.ensures c.loop-number-test.false in
    record {
      adds = c.loop-number.invariant.adds;
      noted = λ k. elim (cases_lt k n) [
        | inl below ↦ c.loop-number.invariant.noted k below
        | inr above ↦ past_spliced s r w k c.loop-number.spliced.items (omega (arith, over, above))
      ];
    }
