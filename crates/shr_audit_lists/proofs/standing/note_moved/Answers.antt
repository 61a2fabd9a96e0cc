-- SPDX-License-Identifier: GPL-2.0-only
use Rattle.shr_audit_lists.proofs.Common.{◌≡◌, ◌<◌, ◌≤◌, length, Some, sym, ◌∙◌, arith, child_of}
use Rattle.shr_audit_lists.proofs.Allowing.{moved_same, moved_set, moved_past}
use Rattle.shr_audit_lists.proofs.standing.note_moved.Goals as goal

pub returns-in_default-clause-noted : goal.returns-in_default-clause-noted
returns-in_default-clause-noted c = λ before told. moved_same before c.args.entry.now c.args.moved.now.items (sym c.child_of.ensures ∙ c.in_default.is) told

pub returns-then-child-len-clause-noted : goal.returns-then-child-len-clause-noted
returns-then-child-len-clause-noted c =
    let named : child_of c.args.entry.now ≡ Some c.in-Some.child = cc in
    let lt : c.in-Some.child < length c.args.moved.now.items = omega (arith, c.if-child-len.true, c.len.ensures, c.args.moved.now.ok.0) in
    λ before told. moved_set before c.args.entry.now c.in-Some.child named c.args.moved.now.items lt told

pub returns-else-child-len-clause-noted : goal.returns-else-child-len-clause-noted
returns-else-child-len-clause-noted c =
    let named : child_of c.args.entry.now ≡ Some c.in-Some.child = cc in
    let le : length c.args.moved.now.items ≤ c.in-Some.child = omega (arith, c.if-child-len.false, c.len.ensures, c.args.moved.now.ok.0) in
    λ before told. moved_past before c.args.entry.now c.in-Some.child named c.args.moved.now.items le told
