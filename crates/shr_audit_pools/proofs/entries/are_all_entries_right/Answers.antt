-- SPDX-License-Identifier: GPL-2.0-only
use Rattle.shr_audit_pools.proofs.Common.{ℕ, true, false, UnitsEnd, more_at, AreEntriesRight, item_fails, items_whole}
use Rattle.shr_audit_pools.proofs.Loops.{each_units_of}
use Rattle.shr_audit_pools.proofs.entries.are_all_entries_right.Goals as goal

pub returns-then-not-are_entries_right : goal.returns-then-not-are_entries_right
returns-then-not-are_entries_right c =
    let s = c.args.script.now in
    let r = c.args.report.now in
    each_units_of s r false c.requires.shelved (item_fails (λ (k : ℕ) (u : UnitsEnd). AreEntriesRight s r u) c.as_slice-units-items.result.now r.units.items c.loop-units.units-index c.units-item.result c.are_entries_right.result c.as_slice-units-items.ensures c.loop-units-test.true c.units-item.is
    c.are_entries_right.ensures c.if-not-are_entries_right.true)

pub loop-units-preserved : goal.loop-units-preserved
loop-units-preserved c =
    let s = c.args.script.now in
    let r = c.args.report.now in
    more_at (λ (k : ℕ) (u : UnitsEnd). AreEntriesRight s r u) c.as_slice-units-items.result.now c.loop-units.units-index c.units-item.result c.loop-units-test.true c.units-item.is c.loop-units.invariant (c.are_entries_right.ensures.0 c.if-not-are_entries_right.false)

pub returns : goal.returns
returns c =
    let s = c.args.script.now in
    let r = c.args.report.now in
    each_units_of s r true c.requires.shelved (items_whole (λ (k : ℕ) (u : UnitsEnd). AreEntriesRight s r u) c.as_slice-units-items.result.now r.units.items c.loop-units.units-index c.as_slice-units-items.ensures c.loop-units-test.false c.loop-units.invariant)
