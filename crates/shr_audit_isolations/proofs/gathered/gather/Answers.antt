-- SPDX-License-Identifier: GPL-2.0-only
use Rattle.shr_audit_isolations.proofs.Common.{List, subst, WorkerPart, clash, IsGatheringBegun}
use Rattle.shr_audit_isolations.proofs.Lists.{gathered_all, scans_decided}
use Rattle.shr_audit_isolations.proofs.gathered.gather.Goals as goal

pub returns-then-not-branch-clause-none : goal.returns-then-not-branch-clause-none
returns-then-not-branch-clause-none c = λ h.
    let begin = subst (λ (ps : List WorkerPart). IsGatheringBegun ps c.in_ok-table.table.items) c.as_slice-parts.ensures c.in_ok-table.ensures in
    clash c.in_ok-gather_lists.field-0
    ((scans_decided c.args.report.now c.as_slice-ends.result.now c.in_ok-table.table.items c.in_ok-gather_lists.field-0 c.as_slice-ends.ensures begin c.in_ok-gather_lists.ensures.right).1 h) c.if-not-branch.true

pub returns-clause-some : goal.returns-clause-some
returns-clause-some c =
    let begin = subst (λ (ps : List WorkerPart). IsGatheringBegun ps c.in_ok-table.table.items) c.as_slice-parts.ensures c.in_ok-table.ensures in (
      (scans_decided c.args.report.now c.as_slice-ends.result.now c.in_ok-table.table.items c.in_ok-gather_lists.field-0 c.as_slice-ends.ensures begin c.in_ok-gather_lists.ensures.right).0 c.if-not-branch.false,
      gathered_all c.args.report.now c.as_slice-ends.result.now c.in_ok-table.table.items c.gather_lists.new.table.items c.as_slice-ends.ensures begin (c.in_ok-gather_lists.ensures.gains c.if-not-branch.false),
    )
