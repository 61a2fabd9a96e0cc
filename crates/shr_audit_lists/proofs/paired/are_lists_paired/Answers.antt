-- SPDX-License-Identifier: GPL-2.0-only
use Rattle.shr_audit_lists.proofs.Common.{ℕ, arith, PlaceEnd, IsFirst, IsPairedAround}
use Rattle.shr_audit_lists.proofs.Loops.{one_fails, one_more, all_so}
use Rattle.shr_audit_lists.proofs.paired.are_lists_paired.Goals as goal

pub returns-then-not-is_list_paired : goal.returns-then-not-is_list_paired
returns-then-not-is_list_paired c = one_fails (λ (n : ℕ) (x : PlaceEnd). IsFirst c.args.report.now.places.items n x.place → IsPairedAround c.args.parents.now c.args.report.now x.place) c.args.report.now.places.items c.loop-k.k c.is_list_paired.result
    (omega arith) c.if-not-is_list_paired.true c.is_list_paired.ensures

pub loop-k-preserved : goal.loop-k-preserved
loop-k-preserved c = one_more (λ (n : ℕ) (x : PlaceEnd). IsFirst c.args.report.now.places.items n x.place → IsPairedAround c.args.parents.now c.args.report.now x.place) c.args.report.now.places.items c.loop-k.k c.is_list_paired.result
    c.if-not-is_list_paired.false c.is_list_paired.ensures c.loop-k.invariant

pub returns : goal.returns
returns c = all_so (λ (n : ℕ) (x : PlaceEnd). IsFirst c.args.report.now.places.items n x.place → IsPairedAround c.args.parents.now c.args.report.now x.place) c.args.report.now.places.items c.loop-k.k (omega arith) c.loop-k.invariant
