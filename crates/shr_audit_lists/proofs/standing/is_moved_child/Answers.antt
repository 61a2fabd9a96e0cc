-- SPDX-License-Identifier: GPL-2.0-only
use Rattle.std.proofs.Common.{arith}
use Rattle.shr_audit_lists.proofs.Allowing.{child_free, child_told}
use Rattle.shr_audit_lists.proofs.standing.is_moved_child.Goals as goal

pub returns-then-above-group : goal.returns-then-above-group
returns-then-above-group c = λ before told. child_free c.args.parents.now c.args.group c.args.child before c.if-above-group.true

pub returns : goal.returns
returns c = λ before told. child_told c.args.parents.now c.args.group c.args.child before c.if-above-group.false _ (told c.args.child (let each = c.requires.each in let there = c.requires.there in omega arith))
