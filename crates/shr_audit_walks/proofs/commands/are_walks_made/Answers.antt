-- SPDX-License-Identifier: GPL-2.0-only
use Rattle.shr_audit_walks.proofs.RoundsCommon.{ℕ, List, subst, Decides, WorkerPart, Command, more_at, commands_of, IsPartMade, stands_here}
use Rattle.shr_audit_walks.proofs.Commanding.{all_made, part_fails}
use Rattle.shr_audit_walks.proofs.commands.are_walks_made.Goals as goal

pub is_part_made-requires-clause-stand : goal.is_part_made-requires-clause-stand
is_part_made-requires-clause-stand c = stands_here c.args.report.now c.as_slice-parts.result.now c.loop-worker.worker c.index-parts-worker.result c.requires.well c.as_slice-parts.ensures c.loop-worker-test.true c.index-parts-worker.is

pub loop-worker-preserved : goal.loop-worker-preserved
loop-worker-preserved c =
    let s = c.args.script.now in
    let dues = c.in_ok-dues.dues in
    let k = c.loop-worker.worker in
    let part = c.index-parts-worker.result in
    let b = c.in_ok-is_part_made.field-0 in
    let made : Decides b (IsPartMade dues k (commands_of s k) part) = subst (λ (cs : List Command). Decides b (IsPartMade dues k cs part)) c.commands_of-commands.ensures c.in_ok-is_part_made.ensures in
    more_at (λ (n : ℕ) (x : WorkerPart). IsPartMade dues n (commands_of s n) x) c.as_slice-parts.result.now k part c.loop-worker-test.true c.index-parts-worker.is c.loop-worker.invariant (made.0 c.if-not-branch.false)

pub returns-then-not-branch : goal.returns-then-not-branch
returns-then-not-branch c =
    let s = c.args.script.now in
    let dues = c.in_ok-dues.dues in
    let k = c.loop-worker.worker in
    let part = c.index-parts-worker.result in
    let b = c.in_ok-is_part_made.field-0 in
    let made : Decides b (IsPartMade dues k (commands_of s k) part) = subst (λ (cs : List Command). Decides b (IsPartMade dues k cs part)) c.commands_of-commands.ensures c.in_ok-is_part_made.ensures in
    part_fails s c.args.report.now dues c.in_ok-dues.ensures c.requires.well c.requires.numbers c.requires.few c.as_slice-parts.result.now k c.as_slice-parts.ensures part b c.loop-worker-test.true c.index-parts-worker.is made c.if-not-branch.true

pub returns : goal.returns
returns c = all_made c.args.script.now c.args.report.now c.in_ok-dues.dues c.in_ok-dues.ensures c.requires.well c.requires.numbers c.requires.few c.as_slice-parts.result.now c.loop-worker.worker c.as_slice-parts.ensures c.loop-worker-test.false c.loop-worker.invariant
