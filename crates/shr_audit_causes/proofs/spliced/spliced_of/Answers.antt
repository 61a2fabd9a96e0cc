-- SPDX-License-Identifier: GPL-2.0-only
use Rattle.shr_audit_causes.proofs.OfflinesCommon.{◌≤◌, ℕ, inl, inr, ap, length, subst, ◌∙◌, false, arith, cases_lt, length-replicate, upto_more, HasSpliced}
use Rattle.shr_audit_causes.proofs.SplicedLaws.{all_spliced, has_still, only_none, past_workers}
use Rattle.shr_audit_causes.proofs.spliced.spliced_of.Goals as goal

pub loop-worker-init : goal.loop-worker-init
loop-worker-init c = record {
  count = ap length c.in_ok-spliced.ensures ∙ length-replicate 65536 false;
  only = only_none c.args.script.now c.args.report.now 65536 c.in_ok-spliced.spliced.items c.in_ok-spliced.ensures;
  noted = λ w lt. absurd (omega (arith, lt));
}

pub loop-worker-preserved : goal.loop-worker-preserved
loop-worker-preserved c =
    let s = c.args.script.now in
    let r = c.args.report.now in
    let w = c.loop-worker.worker in
    let table = c.loop-worker.spliced.items in
    let new = c.note_worker.new.spliced.items in
    record {
      count = c.note_worker.ensures.adds.count ∙ c.loop-worker.invariant.count;
      only = c.note_worker.ensures.adds.only c.loop-worker.invariant.only;
      noted = upto_more (λ v. (k : ℕ) → HasSpliced s r new v k) w (λ v lt k. has_still s r v k table new c.note_worker.ensures.adds (c.loop-worker.invariant.noted v lt k)) c.note_worker.ensures.noted;
    }

pub returns : goal.returns
returns c =
    let s = c.args.script.now in
    let r = c.args.report.now in
    let n = c.loop-worker.worker in
    let table = c.loop-worker.spliced.items in
    let over = subst (λ (k : ℕ). k ≤ n) c.len-worker-end.ensures c.loop-worker-test.false in
    all_spliced s r table c.loop-worker.invariant.count c.loop-worker.invariant.only (λ w k. elim (cases_lt w n) [
      | inl below ↦ c.loop-worker.invariant.noted w below k
      | inr above ↦ past_workers s r w k table (omega (arith, over, above))
    ])
