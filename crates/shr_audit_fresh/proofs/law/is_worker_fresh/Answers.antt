-- SPDX-License-Identifier: GPL-2.0-only
use Rattle.shr_audit_formed.proofs.Eachs.{fails}
use Rattle.shr_audit_fresh.specs.Worker.{AreNumbersFresh, IsBeginStarted, IsWorkerRefused, IsWorkerFresh}
use Rattle.shr_audit_fresh.proofs.law.is_worker_fresh.Goals as goal

pub returns-then-not-branch : goal.returns-then-not-branch
returns-then-not-branch c = fails (AreNumbersFresh c.args.script.now c.args.report.now c.args.worker) (IsWorkerFresh c.args.script.now c.args.report.now c.args.worker) c.in_ok-are_numbers_fresh.field-0 c.in_ok-are_numbers_fresh.ensures c.if-not-branch.true (λ h. h.numbers)

pub returns-then-not-branch-2 : goal.returns-then-not-branch-2
returns-then-not-branch-2 c = fails (IsWorkerRefused c.args.script.now c.args.report.now c.args.worker) (IsWorkerFresh c.args.script.now c.args.report.now c.args.worker) c.in_ok-is_refused.field-0 c.in_ok-is_refused.ensures c.if-not-branch-2.true (λ h. h.refused)

pub returns-then-not-is_begin_started : goal.returns-then-not-is_begin_started
returns-then-not-is_begin_started c = fails (IsBeginStarted c.args.script.now c.args.report.now c.args.worker) (IsWorkerFresh c.args.script.now c.args.report.now c.args.worker) c.is_begin_started.result c.is_begin_started.ensures c.if-not-is_begin_started.true (λ h. h.first)

pub returns : goal.returns
returns c = let d = c.in_ok-made.ensures in (
  λ t. record {
    numbers = c.in_ok-are_numbers_fresh.ensures.0 c.if-not-branch.false;
    refused = c.in_ok-is_refused.ensures.0 c.if-not-branch-2.false;
    first = c.is_begin_started.ensures.0 c.if-not-is_begin_started.false;
    made = d.0 t;
  },
  λ h. d.1 h.made,
)
