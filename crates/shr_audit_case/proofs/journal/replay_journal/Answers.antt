-- SPDX-License-Identifier: GPL-2.0-only
use Rattle.shr_audit_case.proofs.ReplayCommon.{◌≡◌, ◌≤◌, ◌+◌, ◌∙◌, sym, ap, subst, List, [], ◌∷◌, length, drop, refl, ℕ, Entry, Object, took_of, KeepsOthers, drop_more, drop_all}
use Rattle.shr_audit_case.proofs.Taking.{keeps_more}
use Rattle.shr_audit_case.proofs.Following.{IsBehind, behind_none, behind_more, replayed_all, given_all}
use Rattle.shr_audit_case.proofs.journal.replay_journal.Goals as goal

pub loop-entry-init : goal.loop-entry-init
loop-entry-init c = (behind_none _ c.args.entries.now c.new-course.result c.new-course.ensures, record { count = refl; others = λ other no. refl })

pub loop-entry-preserved : goal.loop-entry-preserved
loop-entry-preserved c =
    let k = c.loop-entry.entry-index in
    let here : drop k c.args.entries.now ≡ c.entry-item.result ∷ drop (k + 1) c.args.entries.now =
    drop_more c.args.entries.now k c.entry-item.result c.loop-entry-test.true ∙ ap (λ (e : Entry). e ∷ drop (k + 1) c.args.entries.now) (sym c.entry-item.is) in
    let took = took_of c.args.parents.now c.args.group c.args.lists.now.items in
    let was = took_of c.args.parents.now c.args.group c.loop-entry.lists.items in
    let behind : IsBehind took c.args.entries.now c.loop-entry.course was (c.entry-item.result ∷ drop (k + 1) c.args.entries.now) = subst (λ (es : List Entry). IsBehind took c.args.entries.now c.loop-entry.course was es) here c.loop-entry.invariant.0 in (
      subst (λ (now : ℕ → List Object). IsBehind took c.args.entries.now c.advance.new.self now (drop (k + 1) c.args.entries.now)) (sym c.in_ok-advance.ensures.taken)
          (behind_more took c.args.entries.now c.loop-entry.course c.advance.new.self was c.entry-item.result (drop (k + 1) c.args.entries.now) behind c.in_ok-advance.ensures.went),
      keeps_more _ _ _ _ _ c.loop-entry.invariant.1 c.in_ok-advance.ensures.others,
    )

pub returns-clause-replayed : goal.returns-clause-replayed
returns-clause-replayed c =
    let took = took_of c.args.parents.now c.args.group c.args.lists.now.items in
    let now = took_of c.args.parents.now c.args.group c.loop-entry.lists.items in
    replayed_all took c.args.entries.now c.loop-entry.course now
    (subst (λ (es : List Entry). IsBehind took c.args.entries.now c.loop-entry.course now es) (drop_all c.loop-entry.entry-index c.args.entries.now c.loop-entry-test.false) c.loop-entry.invariant.0) _ _ _ c.in_ok-told.ensures

pub returns-clause-given : goal.returns-clause-given
returns-clause-given c =
    let took = took_of c.args.parents.now c.args.group c.args.lists.now.items in
    let now = took_of c.args.parents.now c.args.group c.loop-entry.lists.items in
    given_all took c.args.entries.now c.loop-entry.course now
    (subst (λ (es : List Entry). IsBehind took c.args.entries.now c.loop-entry.course now es) (drop_all c.loop-entry.entry-index c.args.entries.now c.loop-entry-test.false) c.loop-entry.invariant.0) _ _ _ c.in_ok-told.ensures
