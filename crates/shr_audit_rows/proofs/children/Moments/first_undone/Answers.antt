-- SPDX-License-Identifier: GPL-2.0-only
use Rattle.std.proofs.Common.{◌≡◌, ◌∙◌, ℕ, ◌≤◌, ◌<◌, false, length, arith, below_more, sym}
use Rattle.shr_audit_rows.proofs.MomentsLaws.{undone, undone_first, undone_none}
use Rattle.shr_audit_rows.proofs.children.Moments.first_undone.Goals as goal

pub loop-child-preserved : goal.loop-child-preserved
loop-child-preserved c = below_more (λ (k : ℕ). undone c.args.script.now c.args.report.now c.args.group c.args.entry k ≡ false) c.loop-child.child c.loop-child.invariant (sym c.is_undone.ensures ∙ c.if-is_undone.false)

pub returns-then-is_undone : goal.returns-then-is_undone
returns-then-is_undone c =
    let l = c.len-child-end.ensures in
    let ok = c.args.self.now.parents.ok.0 in
    let lt = c.loop-child-test.true in
    let there : c.loop-child.child < length c.args.self.now.parents.items = omega (arith, l, ok, lt) in
    undone_first c.args.script.now c.args.report.now c.args.self.now c.requires.moments c.args.group c.args.entry c.requires.known c.loop-child.child there (sym (sym c.is_undone.ensures ∙ c.if-is_undone.true)) c.loop-child.invariant

pub returns : goal.returns
returns c =
    let l = c.len-child-end.ensures in
    let ok = c.args.self.now.parents.ok.0 in
    let le = c.loop-child-test.false in
    let over : length c.args.self.now.parents.items ≤ c.loop-child.child = omega (arith, l, ok, le) in
    undone_none c.args.script.now c.args.report.now c.args.self.now c.requires.moments c.args.group c.args.entry c.requires.known c.loop-child.child over c.loop-child.invariant
