-- SPDX-License-Identifier: GPL-2.0-only
use Rattle.shr_audit_charges.proofs.Common.{take, AreCharged, AreUsagesOf}
use Rattle.shr_audit_charges.proofs.history.replay_uses.Given as goal

abbrev pub invariant-loop-i : goal.invariant-loop-i
invariant-loop-i l = AreCharged l.groups (take l.i l.uses) × AreUsagesOf l.groups (take l.i l.uses) l.usages.items
