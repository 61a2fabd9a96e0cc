-- SPDX-License-Identifier: GPL-2.0-only
use Rattle.shr_audit_tables.proofs.Common.{◌+◌, List, subst, sym, IdState, AreBlankStates}
use Rattle.shr_audit_tables.proofs.Replay.{first_more}
use Rattle.shr_audit_tables.proofs.registrations.first_states.Goals as goal

pub loop-preserved : goal.loop-preserved
loop-preserved c = subst (λ (xs : List IdState). AreBlankStates (c.loop.counter + 1) xs) (sym c.in_ok-push.ensures.items) (first_more c.loop.counter c.loop.states.items c.loop.invariant)
