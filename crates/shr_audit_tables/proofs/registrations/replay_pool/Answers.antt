-- SPDX-License-Identifier: GPL-2.0-only
use Rattle.std.proofs.Common.{arith}
use Rattle.shr_audit_tables.proofs.Steps.{failed}
use Rattle.shr_audit_tables.proofs.Replay.{replay_none, replay_more, replay_not, small_phases}
use Rattle.shr_audit_tables.proofs.registrations.replay_pool.Goals as goal

pub loop-i-init : goal.loop-i-init
loop-i-init c = replay_none c.args.ids c.args.decls c.in_ok-states.states.items c.in_ok-states.ensures

pub returns-then-not-may_follow-clause-none : goal.returns-then-not-may_follow-clause-none
returns-then-not-may_follow-clause-none c = replay_not c.args.ids c.args.decls c.args.pool.now c.loop-i.i _ c.loop-i.states.items c.as_slice.result.now c.loop-i-test.true c.loop-i.invariant c.as_slice.ensures.value (failed _ c.may_follow.result c.may_follow.ensures c.if-not-may_follow.true)

pub note_entry-requires : goal.note_entry-requires
note_entry-requires c = λ id x at. let small = small_phases c.args.pool.now c.loop-i.i c.loop-i.states.items c.loop-i-test.true c.loop-i.invariant.1.each id x at in omega (arith, small)

pub loop-i-preserved : goal.loop-i-preserved
loop-i-preserved c = replay_more c.args.ids c.args.decls c.args.pool.now c.loop-i.i _ c.loop-i.states.items c.note_entry.new.states.items c.as_slice.result.now c.loop-i-test.true c.loop-i.invariant c.as_slice.ensures.value (c.may_follow.ensures.0 c.if-not-may_follow.false) c.note_entry.ensures
