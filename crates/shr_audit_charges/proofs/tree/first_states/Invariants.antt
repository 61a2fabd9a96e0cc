-- SPDX-License-Identifier: GPL-2.0-only
use Rattle.shr_audit_charges.proofs.TreeLaw.{AreFirstTo}
use Rattle.shr_audit_charges.proofs.tree.first_states.Given as goal

abbrev pub invariant-loop-is_later : goal.invariant-loop-is_later
invariant-loop-is_later l = AreFirstTo l.later l.is_later-index l.states.items
