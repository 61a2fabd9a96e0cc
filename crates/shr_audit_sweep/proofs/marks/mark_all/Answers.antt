-- SPDX-License-Identifier: GPL-2.0-only
use Rattle.std.proofs.Common.{◌+◌, ◌<◌, ◌≤◌, length, refl, subst, arith}
use Rattle.shr_audit_sweep.proofs.Marking.{groups_same, parents_count, swept_to, workers_all, workers_more, workers_twice}
use Rattle.shr_audit_sweep.proofs.marks.mark_all.Goals as goal

pub returns-then-not-mark_walks-clause-once : goal.returns-then-not-mark_walks-clause-once
returns-then-not-mark_walks-clause-once c =
    let s = c.args.script.now in
    let r = c.args.report.now in
    let n = c.loop-worker.worker in
    let same = parents_count s c.len-groups.result c.len-groups.ensures in
    let lt : n < length s.workers.items = (let e = c.len-worker-end.ensures in let l = c.loop-worker-test.true in omega (arith, e, l)) in
    workers_twice s r n c.sweep_walks.result.now c.mark_walks.result lt c.sweep_walks.ensures
    (c.mark_walks.ensures.once (swept_to s r n) (groups_same s (c.len-groups.result + 1) s.nodes (swept_to s r n) c.loop-worker.marks.items same c.loop-worker.invariant)) c.if-not-mark_walks.true

pub loop-worker-preserved : goal.loop-worker-preserved
loop-worker-preserved c =
    let s = c.args.script.now in
    let r = c.args.report.now in
    let n = c.loop-worker.worker in
    let same = parents_count s c.len-groups.result c.len-groups.ensures in
    workers_more s r (c.len-groups.result + 1) s.nodes n c.sweep_walks.result.now c.mark_walks.new.marks.items same c.sweep_walks.ensures
    (c.mark_walks.ensures.marked (swept_to s r n) (groups_same s (c.len-groups.result + 1) s.nodes (swept_to s r n) c.loop-worker.marks.items same c.loop-worker.invariant) c.if-not-mark_walks.false)

pub returns-clause-once : goal.returns-clause-once
returns-clause-once c =
    let s = c.args.script.now in
    let e = c.len-worker-end.ensures in
    let over : length s.workers.items ≤ c.loop-worker.worker = (let l = c.loop-worker-test.false in omega (arith, e, l)) in
    let under : c.loop-worker.worker ≤ length s.workers.items = (let l = c.loop-worker.auto.worker-end in omega (arith, e, l)) in
    (λ t. (workers_all s c.args.report.now s.nodes c.loop-worker.worker c.loop-worker.marks.items over under c.loop-worker.invariant).once, λ o. refl)

pub returns-clause-marked : goal.returns-clause-marked
returns-clause-marked c = λ t.
    let s = c.args.script.now in
    let e = c.len-worker-end.ensures in
    let over : length s.workers.items ≤ c.loop-worker.worker = (let l = c.loop-worker-test.false in omega (arith, e, l)) in
    let under : c.loop-worker.worker ≤ length s.workers.items = (let l = c.loop-worker.auto.worker-end in omega (arith, e, l)) in
    workers_all s c.args.report.now s.nodes c.loop-worker.worker c.loop-worker.marks.items over under c.loop-worker.invariant
