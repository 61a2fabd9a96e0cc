-- SPDX-License-Identifier: GPL-2.0-only
use Rattle.shr_audit_lists.proofs.Common.{ℕ, arith, PlaceEnd, IsFirst, IsPlaceStanding}
use Rattle.shr_audit_lists.proofs.Loops.{one_fails, one_more, all_so}
use Rattle.shr_audit_lists.proofs.standing.are_lists_standing.Goals as goal

pub loop-k-preserved : goal.loop-k-preserved
loop-k-preserved c = one_more (λ (n : ℕ) (x : PlaceEnd). IsFirst c.args.report.now.places.items n x.place → IsPlaceStanding c.args.parents.now c.args.report.now x.place) c.args.report.now.places.items c.loop-k.k c.in_ok-standing.standing
    c.if-not-standing.false c.in_ok-standing.ensures c.loop-k.invariant

pub returns-then-not-standing : goal.returns-then-not-standing
returns-then-not-standing c = one_fails (λ (n : ℕ) (x : PlaceEnd). IsFirst c.args.report.now.places.items n x.place → IsPlaceStanding c.args.parents.now c.args.report.now x.place) c.args.report.now.places.items c.loop-k.k c.in_ok-standing.standing
    (omega arith) c.if-not-standing.true c.in_ok-standing.ensures

pub returns : goal.returns
returns c = all_so (λ (n : ℕ) (x : PlaceEnd). IsFirst c.args.report.now.places.items n x.place → IsPlaceStanding c.args.parents.now c.args.report.now x.place) c.args.report.now.places.items c.loop-k.k (omega arith) c.loop-k.invariant
