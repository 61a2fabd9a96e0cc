-- SPDX-License-Identifier: GPL-2.0-only
use Rattle.std.proofs.Common.{◌-◌, arith}
use Rattle.shr_audit_lists.proofs.BagLaw.{listed_within, totals_wrong, bag_law}
use Rattle.shr_audit_lists.proofs.bag.is_bag_lawful.Goals as goal

pub overflow_sub-listed : goal.overflow_sub-listed
overflow_sub-listed c = let many = listed_within c.args.case.now.parents.items c.args.report.now c.in_ok-gone.gone c.in_ok-gone.ensures in omega arith

pub returns-then-not-are_totals : goal.returns-then-not-are_totals
returns-then-not-are_totals c = totals_wrong c.args.script.now c.args.report.now c.args.case.now.parents.items c.requires.parents c.in_ok-added.added.items c.in_ok-added.ensures c.in_ok-gone.gone c.in_ok-gone.ensures
    c.len-2.result (omega (arith, c.len-2.ensures, c.in_ok-added.added.ok.0)) (c.len.result - c.in_ok-gone.gone.freed) (omega (arith, c.len.ensures, c.in_ok-gone.gone.serials.ok.0))
    c.are_totals.result c.if-not-are_totals.true c.are_totals.ensures

pub returns : goal.returns
returns c = bag_law c.args.script.now c.args.report.now c.args.case.now.parents.items c.requires.parents c.in_ok-added.added.items c.in_ok-added.ensures c.in_ok-gone.gone c.in_ok-gone.ensures
    c.len-2.result (omega (arith, c.len-2.ensures, c.in_ok-added.added.ok.0)) (c.len.result - c.in_ok-gone.gone.freed) (omega (arith, c.len.ensures, c.in_ok-gone.gone.serials.ok.0))
    c.are_totals.result c.if-not-are_totals.false c.are_totals.ensures c.in_ok-bag.bag c.in_ok-bag.ensures
