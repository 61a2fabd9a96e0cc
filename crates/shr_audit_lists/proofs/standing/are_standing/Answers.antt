-- SPDX-License-Identifier: GPL-2.0-only
use Rattle.shr_audit_lists.proofs.Common.{◌∙◌, Bool, List, sym, subst, ap, length, take, Decides, MayStand, AreMovesTold}
use Rattle.shr_audit_lists.proofs.Allowing.{stood_none, stood_more, stood_fails, stood_all}
use Rattle.shr_audit_lists.proofs.standing.are_standing.Goals as goal

pub loop-entry-init : goal.loop-entry-init
loop-entry-init c = stood_none c.args.parents.now c.args.group c.args.entries.now c.in_ok-moved.moved.items c.in_ok-moved.ensures.none c.in_ok-moved.ensures.count

pub may_stand-requires-clause-each : goal.may_stand-requires-clause-each
may_stand-requires-clause-each c = ap length c.as_slice.ensures.value ∙ c.loop-entry.invariant.many

pub loop-entry-preserved : goal.loop-entry-preserved
loop-entry-preserved c = let before = take c.loop-entry.entry-index c.args.entries.now in
    stood_more c.args.parents.now c.args.group c.args.entries.now c.loop-entry.entry-index c.entry-item.result c.loop-entry-test.true c.entry-item.is c.loop-entry.moved.items c.note_moved.new.moved.items c.loop-entry.closed
    c.may_stand.result c.if-not-may_stand.false (c.may_stand.ensures before (subst (AreMovesTold before) (sym c.as_slice.ensures.value) c.loop-entry.invariant.told) c.loop-entry.invariant.is) c.loop-entry.invariant
    (c.note_moved.ensures.noted before c.loop-entry.invariant.told) c.note_moved.ensures.many c.is_closing-closed.result c.is_closing-closed.ensures

pub returns-then-not-may_stand : goal.returns-then-not-may_stand
returns-then-not-may_stand c = let before = take c.loop-entry.entry-index c.args.entries.now in
    stood_fails c.args.parents.now c.args.group c.args.entries.now c.loop-entry.entry-index c.entry-item.result c.loop-entry-test.true c.entry-item.is
    c.may_stand.result c.if-not-may_stand.true (c.may_stand.ensures before (subst (AreMovesTold before) (sym c.as_slice.ensures.value) c.loop-entry.invariant.told) c.loop-entry.invariant.is)

pub returns : goal.returns
returns c = stood_all c.args.parents.now c.args.group c.args.entries.now c.loop-entry.entry-index c.loop-entry.moved.items c.loop-entry.closed c.loop-entry-test.false c.loop-entry.invariant
