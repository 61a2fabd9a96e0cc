-- SPDX-License-Identifier: GPL-2.0-only
use Rattle.shr_audit_tables.proofs.LookupsCommon.{ap, length, Decides, IsDrawn, AreFoundRight, AreMetRight}
use Rattle.shr_audit_tables.proofs.LookupsWhole.{all_lawful, none_past}
use Rattle.shr_audit_tables.proofs.lookups_law.are_lookups_lawful.Goals as goal

pub are_idle_empty-empty-requires-clause-none_past : goal.are_idle_empty-empty-requires-clause-none_past
are_idle_empty-empty-requires-clause-none_past c =
    let found = rw c.in-Some.is at c.in_ok-states.ensures.some in
    none_past c.args.script.now c.args.report.now c.in-Some.states.items (length c.as_slice.result.now) (ap length c.as_slice.ensures.value) found.0 found.1

pub returns : goal.returns
returns c =
    let s = c.args.script.now in
    let r = c.args.report.now in
    let found = rw c.in-Some.is at c.in_ok-states.ensures.some in
    let drawn : Decides c.in_ok-is_drawn.field-0 (IsDrawn r) = c.in_ok-is_drawn.ensures in
    let met : Decides c.in_ok-are_met_right.field-0 (AreMetRight r) = c.in_ok-are_met_right.ensures in
    let right : Decides c.in_ok-are_found_right.field-0 (AreFoundRight s r) = c.in_ok-are_found_right.ensures in
    all_lawful s r c.args.case.now.parents.items c.are_idle_empty-empty.result c.requires.case.parents found.0 (drawn.0 c.if-not-branch.false) (met.0 c.if-not-branch-2.false) (right.0 c.if-not-branch-3.false) c.are_idle_empty-empty.ensures
