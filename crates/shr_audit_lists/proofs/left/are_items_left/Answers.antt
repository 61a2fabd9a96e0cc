-- SPDX-License-Identifier: GPL-2.0-only
use Rattle.shr_audit_lists.proofs.Common.{ℕ, arith, PlaceEnd, IsItemsLeft}
use Rattle.shr_audit_lists.proofs.Loops.{one_fails, one_more, all_so}
use Rattle.shr_audit_lists.proofs.left.are_items_left.Goals as goal

pub loop-k-preserved : goal.loop-k-preserved
loop-k-preserved c = one_more (λ (n : ℕ) (x : PlaceEnd). IsItemsLeft c.args.case.now.parents.items c.args.report.now x) c.args.report.now.places.items c.loop-k.k c.is_list_left.result
    c.if-not-is_list_left.false c.is_list_left.ensures c.loop-k.invariant

pub returns-then-not-is_list_left : goal.returns-then-not-is_list_left
returns-then-not-is_list_left c = one_fails (λ (n : ℕ) (x : PlaceEnd). IsItemsLeft c.args.case.now.parents.items c.args.report.now x) c.args.report.now.places.items c.loop-k.k c.is_list_left.result
    (omega arith) c.if-not-is_list_left.true c.is_list_left.ensures

pub returns : goal.returns
returns c = all_so (λ (n : ℕ) (x : PlaceEnd). IsItemsLeft c.args.case.now.parents.items c.args.report.now x) c.args.report.now.places.items c.loop-k.k (omega arith) c.loop-k.invariant
