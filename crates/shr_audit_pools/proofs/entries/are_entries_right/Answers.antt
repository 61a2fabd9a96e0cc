-- SPDX-License-Identifier: GPL-2.0-only
use Rattle.shr_audit_pools.proofs.Common.{units_place, IsEntryRight, items_whole, value_fails, at_copied}
use Rattle.shr_audit_pools.proofs.entries.are_entries_right.Goals as goal

pub returns-then-not-is_entry_right : goal.returns-then-not-is_entry_right
returns-then-not-is_entry_right c =
    value_fails (IsEntryRight c.args.script.now c.args.report.now (units_place c.args.units.now)) c.as_slice-entries.result.now c.args.units.now.entries.items c.loop-number.number _ c.is_entry_right.result c.as_slice-entries.ensures c.loop-number-test.true
    c.is_entry_right.ensures c.if-not-is_entry_right.true

pub loop-number-preserved : goal.loop-number-preserved
loop-number-preserved c =
    at_copied (IsEntryRight c.args.script.now c.args.report.now (units_place c.args.units.now)) c.as_slice-entries.result.now c.loop-number.number _ c.loop-number-test.true c.loop-number.invariant
    (c.is_entry_right.ensures.0 c.if-not-is_entry_right.false)

pub returns : goal.returns
returns c = items_whole (IsEntryRight c.args.script.now c.args.report.now (units_place c.args.units.now)) c.as_slice-entries.result.now c.args.units.now.entries.items c.loop-number.number c.as_slice-entries.ensures c.loop-number-test.false c.loop-number.invariant
