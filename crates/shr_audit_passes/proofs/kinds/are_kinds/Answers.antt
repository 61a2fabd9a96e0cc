-- SPDX-License-Identifier: GPL-2.0-only
use Rattle.shr_audit_passes.proofs.Common.{List, subst, Decides, EachItem, Attempt, WalkRecord, IsKindAt}
use Rattle.shr_audit_passes.proofs.kinds.are_kinds.Goals as goal

pub returns : goal.returns
returns c = let told = c.are_kinds_at-kinds.result in let script = c.args.script.now in let report = c.args.report.now in
    subst (λ (l : List Attempt). Decides told (EachItem (IsKindAt script report c.args.walk.now.priority) l)) c.attempts.ensures
    (subst (λ (w : WalkRecord). Decides told (EachItem (IsKindAt script report w.priority) c.attempts.result.now)) c.walk.view_is c.are_kinds_at-kinds.ensures)
