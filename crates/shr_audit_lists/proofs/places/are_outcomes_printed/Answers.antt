-- SPDX-License-Identifier: GPL-2.0-only
use Rattle.shr_audit_lists.proofs.Common.{ℕ, arith, PlaceEnd, IsFirst, IsOutcomeSo}
use Rattle.shr_audit_lists.proofs.Loops.{one_fails, one_more, all_so}
use Rattle.shr_audit_lists.proofs.places.are_outcomes_printed.Goals as goal

pub returns-then-not-is_outcome_so : goal.returns-then-not-is_outcome_so
returns-then-not-is_outcome_so c = one_fails (λ (n : ℕ) (x : PlaceEnd). IsFirst c.args.report.now.places.items n x.place → IsOutcomeSo c.args.case.now.parents.items c.args.report.now x.place) c.args.report.now.places.items c.loop-k.k c.is_outcome_so.result
    (omega arith) c.if-not-is_outcome_so.true c.is_outcome_so.ensures

pub loop-k-preserved : goal.loop-k-preserved
loop-k-preserved c = one_more (λ (n : ℕ) (x : PlaceEnd). IsFirst c.args.report.now.places.items n x.place → IsOutcomeSo c.args.case.now.parents.items c.args.report.now x.place) c.args.report.now.places.items c.loop-k.k c.is_outcome_so.result
    c.if-not-is_outcome_so.false c.is_outcome_so.ensures c.loop-k.invariant

pub returns : goal.returns
returns c = all_so (λ (n : ℕ) (x : PlaceEnd). IsFirst c.args.report.now.places.items n x.place → IsOutcomeSo c.args.case.now.parents.items c.args.report.now x.place) c.args.report.now.places.items c.loop-k.k (omega arith) c.loop-k.invariant
