-- SPDX-License-Identifier: GPL-2.0-only
use Rattle.shr_audit_rows.proofs.Common.{◌∙◌, ◌<◌, length, arith, get_or_default}
use Rattle.shr_audit_rows.proofs.TriedLaws.{step_down, step_up}
use Rattle.shr_audit_rows.proofs.tried.note.Goals as goal
use Rattle.shr_model.proofs.Booleans.{not_true}
use Rattle.std.proofs.lemmas.Bool.{not-false}

pub returns-then-not-step : goal.returns-then-not-step
returns-then-not-step c = λ before t.
    let counts = c.args.tries.now.counts.items in
    let few : c.args.step.group < 65536 = omega arith in
    let there : c.args.step.group < length counts = (let long = c.requires.sized in omega (arith, long, few)) in
    step_down before c.args.step c.args.tries.now.tried counts c.index-index.result.now few (c.index-index.ensures ∙ get_or_default counts c.args.step.group c.index-index.result.now 0 there) (not_true c.args.step.up c.if-not-step.true) t

pub returns : goal.returns
returns c = λ before t.
    let counts = c.args.tries.now.counts.items in
    let few : c.args.step.group < 65536 = omega arith in
    let there : c.args.step.group < length counts = (let long = c.requires.sized in omega (arith, long, few)) in
    step_up before c.args.step c.args.tries.now.tried c.note_up.new.tried counts c.index-index.result.now few (c.index-index.ensures ∙ get_or_default counts c.args.step.group c.index-index.result.now 0 there) (not-false c.args.step.up c.if-not-step.false) c.in_ok-note_up.ensures t

pub overflow_add-index : goal.overflow_add-index
overflow_add-index c =
    let counts = c.args.tries.now.counts.items in
    let few : c.args.step.group < 65536 = omega arith in
    let there : c.args.step.group < length counts = (let long = c.requires.sized in omega (arith, long, few)) in
    let e = c.index-index.ensures ∙ get_or_default counts c.args.step.group c.index-index.result.now 0 there in
    let h = c.requires.room c.args.step.group few in
    omega (arith, e, h)
