-- SPDX-License-Identifier: GPL-2.0-only
use Rattle.shr_audit_isolations.proofs.Common.{Option, subst, Vec, Global, IsOfIsolation, EachEntry, Gathered, AreGathered, IfSome}
use Rattle.shr_audit_isolations.proofs.Lists.{rows_decided}
use Rattle.shr_audit_isolations.proofs.isolations.are_gathered_right.Goals as goal

pub returns-in-Some : goal.returns-in-Some
returns-in-Some c =
    let r = c.args.report.now in
    let found = subst (λ (o : Option (Vec (Vec Gathered Global) Global)). IfSome o (λ table. EachEntry r (λ place n e. IsOfIsolation r place e) × AreGathered r table.items)) c.in-Some.is c.in_ok-found.ensures.some in
    rows_decided c.args.script.now r c.in-Some.table.items c.as_slice.result.now c.are_rows_right-right.result c.as_slice.ensures.value found.0 found.1 c.are_rows_right-right.ensures
