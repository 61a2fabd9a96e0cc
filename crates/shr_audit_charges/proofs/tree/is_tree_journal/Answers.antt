-- SPDX-License-Identifier: GPL-2.0-only
use Rattle.std.proofs.Common.{refl}
use Rattle.shr_audit_charges.proofs.TreeLaw.{first_of, one_more, not_one_more, whole}
use Rattle.shr_audit_charges.proofs.tree.is_tree_journal.Goals as goal

pub loop-i-init : goal.loop-i-init
loop-i-init c = first_of c.args.parents.now c.args.later.now c.in_ok-states.states.items c.requires.later c.in_ok-states.ensures

pub returns-then-not-may_follow : goal.returns-then-not-may_follow
returns-then-not-may_follow c = (λ t. absurd cc, λ law. absurd (not_one_more c.args.parents.now c.args.later.now c.args.entries.now c.loop-i.i _ c.loop-i.states.items c.as_slice.result.now c.loop-i-test.true c.requires.tree c.loop-i.invariant c.as_slice.ensures.value (λ may. let t = c.may_follow.ensures.1 may in let f = c.if-not-may_follow.true in cc) law))

pub loop-i-preserved : goal.loop-i-preserved
loop-i-preserved c = one_more c.args.parents.now c.args.later.now c.args.entries.now c.loop-i.i _ c.loop-i.states.items c.as_slice.result.now c.note_entry.new.states.items c.loop-i-test.true c.loop-i.invariant c.as_slice.ensures.value (c.may_follow.ensures.0 c.if-not-may_follow.false) c.note_entry.ensures

pub returns : goal.returns
returns c = (λ t. whole c.args.parents.now c.args.later.now c.args.entries.now c.loop-i.i c.loop-i-test.false c.loop-i.invariant.0, λ h. refl)
