-- SPDX-License-Identifier: GPL-2.0-only
use Rattle.shr_audit_charges.proofs.Common.{◌+◌, List, subst, sym, Usage, AreNone}
use Rattle.shr_audit_charges.proofs.HistoryLaw.{none_more}
use Rattle.shr_audit_charges.proofs.history.first_usages.Goals as goal

pub loop-preserved : goal.loop-preserved
loop-preserved c = subst (λ (xs : List Usage). AreNone (c.loop.counter + 1) xs) (sym c.in_ok-push.ensures.items) (none_more c.loop.counter c.loop.usages.items c.loop.invariant)
