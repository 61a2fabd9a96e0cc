-- SPDX-License-Identifier: GPL-2.0-only
use Rattle.shr_audit_pools.proofs.Common.{ℕ, true, false, WorkerPart, more_at, IsPoolReply, IsPartRight, item_fails, items_whole}
use Rattle.shr_audit_case.proofs.Eachs.{each_answer_of}
use Rattle.shr_audit_pools.proofs.replies.are_replies_right.Goals as goal

pub returns-then-not-is_part_right : goal.returns-then-not-is_part_right
returns-then-not-is_part_right c =
    each_answer_of c.args.script.now c.args.report.now (λ by x a. IsPoolReply c.args.script.now c.args.report.now by x a.reply) false (item_fails (λ (k : ℕ) (part : WorkerPart). IsPartRight c.args.script.now c.args.report.now k part) c.as_slice-parts.result.now c.args.report.now.workers.items c.loop-worker.worker c.index-parts-worker.result c.is_part_right.result c.as_slice-parts.ensures c.loop-worker-test.true c.index-parts-worker.is
    c.is_part_right.ensures c.if-not-is_part_right.true)

pub loop-worker-preserved : goal.loop-worker-preserved
loop-worker-preserved c =
    more_at (λ (k : ℕ) (part : WorkerPart). IsPartRight c.args.script.now c.args.report.now k part) c.as_slice-parts.result.now c.loop-worker.worker c.index-parts-worker.result c.loop-worker-test.true c.index-parts-worker.is c.loop-worker.invariant
    (c.is_part_right.ensures.0 c.if-not-is_part_right.false)

pub returns : goal.returns
returns c = each_answer_of c.args.script.now c.args.report.now (λ by x a. IsPoolReply c.args.script.now c.args.report.now by x a.reply) true (items_whole (λ (k : ℕ) (part : WorkerPart). IsPartRight c.args.script.now c.args.report.now k part) c.as_slice-parts.result.now c.args.report.now.workers.items c.loop-worker.worker c.as_slice-parts.ensures c.loop-worker-test.false c.loop-worker.invariant)
