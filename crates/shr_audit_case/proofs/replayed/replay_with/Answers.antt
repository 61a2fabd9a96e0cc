-- SPDX-License-Identifier: GPL-2.0-only
use Rattle.shr_audit_case.proofs.ReplayCommon.{◌≡◌, sym, ◌∙◌, Some, false, true, child_of, took_of}
use Rattle.shr_audit_case.proofs.Moving.{after_some, left_some}
use Rattle.shr_audit_case.proofs.Taking.{took_none, without_none, took_rest}
use Rattle.shr_audit_case.proofs.replayed.replay_with.Goals as goal

pub returns-then-not-has_list-clause-taken : goal.returns-then-not-has_list-clause-taken
returns-then-not-has_list-clause-taken c =
    let named : child_of c.args.entry.now ≡ Some c.in-Some.child = cc in
    let took = took_of c.args.parents.now c.args.group c.args.lists.now.items in
    without_none took c.in-Some.child (took_none c.args.parents.now c.args.group c.args.lists.now.items c.in-Some.child (cc)) ∙ sym (after_some took c.args.entry.now c.in-Some.child named)

pub returns-clause-taken : goal.returns-clause-taken
returns-clause-taken c =
    let named : child_of c.args.entry.now ≡ Some c.in-Some.child = cc in
    let took = took_of c.args.parents.now c.args.group c.args.lists.now.items in
    took_rest c.args.parents.now c.args.group c.args.lists.now.items c.in-Some.child c.replay_entry.new.given (cc) (c.in_ok-told-3.ensures.given ∙ left_some _ c.args.entry.now c.in-Some.child named)
    ∙ sym (after_some took c.args.entry.now c.in-Some.child named)
