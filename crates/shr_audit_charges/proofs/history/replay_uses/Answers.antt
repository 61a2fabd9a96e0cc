-- SPDX-License-Identifier: GPL-2.0-only
use Rattle.shr_audit_charges.proofs.Common.{arith, ap, sym, ◌∙◌, List, slice_get, Usage}
use Rattle.shr_audit_charges.proofs.HistoryLaw.{none_yet, one_more, not_one_more, small_usages}
use Rattle.shr_audit_charges.proofs.history.replay_uses.Goals as goal

pub loop-i-init : goal.loop-i-init
loop-i-init c = none_yet c.args.groups c.in_ok-usages.usages.items c.in_ok-usages.ensures

pub may_follow-requires : goal.may_follow-requires
may_follow-requires c = λ g x at. let small = small_usages c.args.groups c.args.uses.now c.loop-i.i c.loop-i.usages.items c.loop-i-test.true c.loop-i.invariant.1 g x (sym (ap (λ (l : List Usage). slice_get l g) c.as_slice.ensures.value) ∙ at) in omega (arith, small)

pub note_step-requires : goal.note_step-requires
note_step-requires c = λ g x at. let small = small_usages c.args.groups c.args.uses.now c.loop-i.i c.loop-i.usages.items c.loop-i-test.true c.loop-i.invariant.1 g x at in omega (arith, small)

pub loop-i-preserved : goal.loop-i-preserved
loop-i-preserved c = one_more c.args.groups c.args.uses.now c.loop-i.i _ c.loop-i.usages.items c.as_slice.result.now c.note_step.new.usages.items c.loop-i-test.true c.loop-i.invariant c.as_slice.ensures.value (c.may_follow.ensures.0 c.if-not-may_follow.false) c.note_step.ensures

pub returns-then-not-may_follow-clause-none : goal.returns-then-not-may_follow-clause-none
returns-then-not-may_follow-clause-none c = not_one_more c.args.groups c.args.uses.now c.loop-i.i _ c.loop-i.usages.items c.as_slice.result.now c.loop-i-test.true c.loop-i.invariant.1 c.as_slice.ensures.value (λ h. let t = c.may_follow.ensures.1 h in let f = c.if-not-may_follow.true in cc)
