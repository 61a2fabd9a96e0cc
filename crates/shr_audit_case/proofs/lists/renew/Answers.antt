-- SPDX-License-Identifier: GPL-2.0-only
use Rattle.shr_audit_case.proofs.Common.{subst, IsNewAt}
use Rattle.shr_audit_case.proofs.Replaying.{ready_new, ready_old}
use Rattle.shr_audit_case.proofs.lists.renew.Goals as goal

pub returns-then-not-is_new : goal.returns-then-not-is_new
returns-then-not-is_new c = ready_old c.args.parents.now c.args.ends.now c.args.k c.args.node.now.items c.requires.order c.requires.there c.requires.left
    (subst (IsNewAt c.args.ends.now c.args.k) c.if-not-is_new.true c.is_new.ensures)

pub returns : goal.returns
returns c = ready_new c.args.parents.now c.args.ends.now c.args.k c.index-ends-k.result c.in_ok-node.field-0.items c.in_ok-node.ensures
