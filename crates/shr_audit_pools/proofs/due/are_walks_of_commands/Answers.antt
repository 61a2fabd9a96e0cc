-- SPDX-License-Identifier: GPL-2.0-only
use Rattle.shr_audit_pools.proofs.DueCommon.{ℕ, List, true, false, subst, Decides, WorkerPart, PlainWalk, EachItem, more_at, IsDue}
use Rattle.shr_audit_pools.proofs.DueLoops.{each_plain_of, item_fails, items_whole}
use Rattle.shr_audit_pools.proofs.due.are_walks_of_commands.Goals as goal

pub returns-then-not-are_all_due : goal.returns-then-not-are_all_due
returns-then-not-are_all_due c =
    let s = c.args.script.now in
    let r = c.args.report.now in
    each_plain_of r (λ worker n w. IsDue s r w) false (item_fails (λ (k : ℕ) (part : WorkerPart). EachItem (IsDue s r) part.plain.items) c.as_slice-part-items.result.now r.workers.items c.loop-part.part-index c.part-item.result c.are_all_due.result c.as_slice-part-items.ensures c.loop-part-test.true c.part-item.is
    (subst (λ (ws : List PlainWalk). Decides c.are_all_due.result (EachItem (IsDue s r) ws)) c.as_slice.ensures c.are_all_due.ensures) c.if-not-are_all_due.true)

pub loop-part-preserved : goal.loop-part-preserved
loop-part-preserved c =
    let s = c.args.script.now in
    let r = c.args.report.now in
    more_at (λ (k : ℕ) (part : WorkerPart). EachItem (IsDue s r) part.plain.items) c.as_slice-part-items.result.now c.loop-part.part-index c.part-item.result c.loop-part-test.true c.part-item.is c.loop-part.invariant
    ((subst (λ (ws : List PlainWalk). Decides c.are_all_due.result (EachItem (IsDue s r) ws)) c.as_slice.ensures c.are_all_due.ensures).0 c.if-not-are_all_due.false)

pub returns : goal.returns
returns c =
    let s = c.args.script.now in
    let r = c.args.report.now in
    each_plain_of r (λ worker n w. IsDue s r w) true (items_whole (λ (k : ℕ) (part : WorkerPart). EachItem (IsDue s r) part.plain.items) c.as_slice-part-items.result.now r.workers.items c.loop-part.part-index c.as_slice-part-items.ensures c.loop-part-test.false c.loop-part.invariant)
