-- SPDX-License-Identifier: GPL-2.0-only
use Rattle.shr_audit_charges.proofs.Common.{take, IsTreeJournal, AreGroupStatesOf, hierarchy}
use Rattle.shr_audit_charges.proofs.tree.is_tree_journal.Given as goal

abbrev pub invariant-loop-i : goal.invariant-loop-i
invariant-loop-i l = IsTreeJournal (hierarchy l.parents l.later) (take l.i l.entries) × AreGroupStatesOf (hierarchy l.parents l.later) (take l.i l.entries) l.states.items
