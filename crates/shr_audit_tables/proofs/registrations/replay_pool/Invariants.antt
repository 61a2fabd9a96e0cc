-- SPDX-License-Identifier: GPL-2.0-only
use Rattle.shr_audit_tables.proofs.Common.{take, IsPoolJournal, AreStatesOf}
use Rattle.shr_audit_tables.proofs.registrations.replay_pool.Given as goal

abbrev pub invariant-loop-i : goal.invariant-loop-i
invariant-loop-i l = IsPoolJournal l.ids l.decls (take l.i l.pool) × AreStatesOf l.ids (take l.i l.pool) l.states.items
