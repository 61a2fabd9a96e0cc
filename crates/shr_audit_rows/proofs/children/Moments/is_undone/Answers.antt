-- SPDX-License-Identifier: GPL-2.0-only
use Rattle.shr_audit_rows.proofs.Common.{◌∙◌, Bool, ap, get_or, ◌&&◌, ◌||◌, nat_lt, not}
use Rattle.shr_audit_rows.proofs.MomentsLaws.{child_is, not_child}
use Rattle.shr_audit_rows.proofs.children.Moments.is_undone.Goals as goal

pub returns-then-not-is_child : goal.returns-then-not-is_child
returns-then-not-is_child c = not_child c.args.script.now c.args.report.now c.args.self.now c.requires.moments c.args.group c.args.entry c.requires.known c.args.child c.is_child.result c.is_child.ensures c.if-not-is_child.true

pub returns : goal.returns
returns c =
    let later = c.is_later-later.result in
    c.is_left.ensures ∙ ap (λ (b : Bool). (not later || b) && not c.is_done_before-done.result) c.is_made_before-made.ensures
    ∙ ap (λ (b : Bool). (not later || nat_lt (get_or c.args.self.now.made.items c.args.child 0) c.args.entry) && not b) c.is_done_before-done.ensures
    ∙ child_is c.args.script.now c.args.report.now c.args.self.now c.requires.moments c.args.group c.args.entry c.requires.known c.args.child c.is_child.result later c.requires.there c.is_child.ensures c.if-not-is_child.false c.is_later-later.ensures
