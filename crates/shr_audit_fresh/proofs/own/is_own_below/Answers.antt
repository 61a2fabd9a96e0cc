-- SPDX-License-Identifier: GPL-2.0-only
use Rattle.shr_audit_fresh.proofs.Common.{ℕ, ◌≤◌, List, subst, Answered, Report, of_answer, pool_made, pool_seen, serial_of, FloorWith}
use Rattle.shr_audit_fresh.proofs.Answering.{of_past}
use Rattle.shr_audit_fresh.proofs.FloorLaws.{floor_next, floor_start, known_all, known_fails, known_more, known_none, reaches_below}
use Rattle.shr_audit_fresh.proofs.own.is_own_below.Goals as goal

abbrev known : Report → ℕ → ℕ → List ℕ
known r worker k = of_answer r (serial_of worker k) (λ (a : Answered). pool_made a.reply)

abbrev seen : Report → ℕ → ℕ → List ℕ
seen r worker k = of_answer r (serial_of worker k) pool_seen

pub loop-number-init : goal.loop-number-init
loop-number-init c = record {
  floor = floor_start (known c.args.report.now c.args.worker);
  below = known_none (known c.args.report.now c.args.worker) (seen c.args.report.now c.args.worker);
}

pub loop-number-preserved : goal.loop-number-preserved
loop-number-preserved c =
    let r = c.args.report.now in
    let w = c.args.worker in
    let k = c.loop-number.number in
    record {
      floor = floor_next (known r w) k c.loop-number.floor c.floor_with-floor.result c.loop-number.invariant.floor
          (subst (λ (ns : List ℕ). FloorWith c.loop-number.floor ns c.floor_with-floor.result) c.made_by.ensures c.floor_with-floor.ensures);
      below = known_more (known r w) (seen r w) k c.loop-number.invariant.below
          (reaches_below (known r w) k c.loop-number.floor (seen r w k) c.loop-number.invariant.floor (c.pool_reaches_at.ensures.0 c.if-not-pool_reaches_at.false));
    }

pub returns-then-not-pool_reaches_at : goal.returns-then-not-pool_reaches_at
returns-then-not-pool_reaches_at c = known_fails (known c.args.report.now c.args.worker) (seen c.args.report.now c.args.worker) c.loop-number.number c.loop-number.floor c.pool_reaches_at.result
    c.loop-number.invariant.floor c.pool_reaches_at.ensures c.if-not-pool_reaches_at.true

pub returns : goal.returns
returns c =
    let r = c.args.report.now in
    let w = c.args.worker in
    known_all (known r w) (seen r w) c.count_answers-number-end.result c.loop-number.number c.loop-number-test.false
    (λ later over. of_past r w later pool_seen (subst (λ (n : ℕ). n ≤ later) c.count_answers-number-end.ensures over)) c.loop-number.invariant.below
