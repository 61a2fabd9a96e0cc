-- SPDX-License-Identifier: GPL-2.0-only
use Rattle.shr_audit_fresh.proofs.Common.{ℕ, ◌≤◌, List, true, false, sym, subst, arith, TreeEntry, Cited, AreCited, EachItem, IsTreeNumbered, IsWorkerFresh}
use Rattle.shr_audit_reasons.specs.declared.cites.What.TheVariants as say
use Rattle.shr_audit_case.proofs.Upto.{upto_all, upto_fails, upto_more}
use Rattle.shr_audit_fresh.proofs.Workers.{fresh_of, fresh_past}
use Rattle.shr_audit_fresh.proofs.law.is_fresh.Goals as goal

pub is_worker_fresh-requires-clause-begun : goal.is_worker_fresh-requires-clause-begun
is_worker_fresh-requires-clause-begun c = subst (λ (t : List Cited). AreCited c.args.script.now c.args.report.now say.Begun 65536 t) (sym c.as_slice-table.ensures.value) c.in_ok-begun.ensures

pub is_worker_fresh-requires-clause-numbered : goal.is_worker_fresh-requires-clause-numbered
is_worker_fresh-requires-clause-numbered c = subst (λ (tree : List TreeEntry). EachItem IsTreeNumbered tree) c.as_slice.ensures c.tree_fits.ensures

pub loop-worker-preserved : goal.loop-worker-preserved
loop-worker-preserved c = upto_more (IsWorkerFresh c.args.script.now c.args.report.now) c.loop-worker.worker c.loop-worker.invariant (c.in_ok-is_worker_fresh.ensures.0 c.if-not-branch.false)

pub returns-then-not-branch : goal.returns-then-not-branch
returns-then-not-branch c =
    let s = c.args.script.now in
    let r = c.args.report.now in
    fresh_of s r false (upto_fails (IsWorkerFresh s r) c.loop-worker.worker c.in_ok-is_worker_fresh.field-0 c.in_ok-is_worker_fresh.ensures c.if-not-branch.true)

pub returns : goal.returns
returns c =
    let s = c.args.script.now in
    let r = c.args.report.now in
    let over = subst (λ (n : ℕ). n ≤ c.loop-worker.worker) c.len-worker-end.ensures c.loop-worker-test.false in
    fresh_of s r true (upto_all (IsWorkerFresh s r) c.loop-worker.worker c.loop-worker.invariant (λ k le. fresh_past s r k (omega (arith, over, le))))
