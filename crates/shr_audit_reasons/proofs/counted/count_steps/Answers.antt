-- SPDX-License-Identifier: GPL-2.0-only
use Rattle.shr_audit_reasons.proofs.SpentCommon.{List, take, sym, subst, ◌∙◌, take_more, take_all, UseStep, AreCounted}
use Rattle.shr_audit_reasons.proofs.Counting.{none_counted}
use Rattle.shr_audit_reasons.proofs.counted.count_steps.Goals as goal

pub loop-step-init : goal.loop-step-init
loop-step-init c = (c.in_ok-counts.ensures.0, none_counted c.args.kind c.in_ok-counts.counts.items c.in_ok-counts.ensures.1)

pub loop-step-preserved : goal.loop-step-preserved
loop-step-preserved c = let i = c.loop-step.step-index in let steps = c.args.steps.now in (
  c.note_step.ensures.count ∙ c.loop-step.invariant.0,
  subst (λ (os : List UseStep). AreCounted c.args.kind os c.note_step.new.counts.items) (sym (take_more steps i _ c.loop-step-test.true)) (c.note_step.ensures.noted (take i steps) c.loop-step.invariant.1),
)

pub returns : goal.returns
returns c = (c.loop-step.invariant.0, subst (λ (os : List UseStep). AreCounted c.args.kind os c.loop-step.counts.items) (take_all c.loop-step.step-index c.args.steps.now c.loop-step-test.false) c.loop-step.invariant.1)
