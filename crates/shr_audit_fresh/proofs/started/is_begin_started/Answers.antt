-- SPDX-License-Identifier: GPL-2.0-only
use Rattle.shr_audit_fresh.proofs.Common.{List, subst, Decides, WalkRecord, EachItem, IsWalkStarted}
use Rattle.shr_audit_fresh.proofs.StartedLaws.{answers_fail, started}
use Rattle.shr_audit_fresh.proofs.started.is_begin_started.Goals as goal

pub returns-then-not-are_answers_started : goal.returns-then-not-are_answers_started
returns-then-not-are_answers_started c = answers_fail c.args.script.now c.args.report.now c.args.begun.now c.requires.begun c.requires.numbered c.args.worker c.are_answers_started.result c.are_answers_started.ensures c.if-not-are_answers_started.true

pub returns : goal.returns
returns c =
    let r = c.args.report.now in
    let b = c.are_walks_started-all.result in
    started c.args.script.now r c.args.begun.now c.requires.begun c.requires.numbered c.args.worker b (c.are_answers_started.ensures.0 c.if-not-are_answers_started.false)
    (subst (λ (ws : List WalkRecord). Decides b (EachItem (λ w. IsWalkStarted r c.args.begun.now c.args.worker w) ws)) c.walks_of.ensures c.are_walks_started-all.ensures)
