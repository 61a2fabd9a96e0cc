-- SPDX-License-Identifier: GPL-2.0-only
use Rattle.shr_audit_lists.proofs.Common.{ℕ, arith, PlaceEnd, IsFirst, IsBegunIfClosed}
use Rattle.shr_audit_lists.proofs.Loops.{one_fails, one_more, all_so}
use Rattle.shr_audit_lists.proofs.begun.are_lists_begun.Goals as goal

pub returns-then-not-is_list_begun : goal.returns-then-not-is_list_begun
returns-then-not-is_list_begun c = λ parents told. one_fails (λ (n : ℕ) (x : PlaceEnd). IsFirst c.args.report.now.places.items n x.place → IsBegunIfClosed parents c.args.report.now x.place) c.args.report.now.places.items c.loop-k.k c.is_list_begun.result
    (omega arith) c.if-not-is_list_begun.true (c.is_list_begun.ensures parents told)

pub loop-k-preserved : goal.loop-k-preserved
loop-k-preserved c = λ parents told. one_more (λ (n : ℕ) (x : PlaceEnd). IsFirst c.args.report.now.places.items n x.place → IsBegunIfClosed parents c.args.report.now x.place) c.args.report.now.places.items c.loop-k.k c.is_list_begun.result
    c.if-not-is_list_begun.false (c.is_list_begun.ensures parents told) (c.loop-k.invariant parents told)

pub returns : goal.returns
returns c = λ parents told. all_so (λ (n : ℕ) (x : PlaceEnd). IsFirst c.args.report.now.places.items n x.place → IsBegunIfClosed parents c.args.report.now x.place) c.args.report.now.places.items c.loop-k.k (omega arith) (c.loop-k.invariant parents told)
