-- SPDX-License-Identifier: GPL-2.0-only
use Rattle.shr_audit_fresh.proofs.Common.{[], take, AreLeastOfGroups, ShownByWalks}
use Rattle.shr_audit_fresh.proofs.refused.note_walks.Given as goal

abbrev pub invariant-loop-walk : goal.invariant-loop-walk
invariant-loop-walk l = AreLeastOfGroups (ShownByWalks l.report l.worker []) l.fn.firsts → AreLeastOfGroups (ShownByWalks l.report l.worker (take l.walk-index l.walk-items)) l.firsts
