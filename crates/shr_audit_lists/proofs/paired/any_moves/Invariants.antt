-- SPDX-License-Identifier: GPL-2.0-only
use Rattle.shr_audit_lists.proofs.Common.{◌≡◌, drop, list_any, moves}
use Rattle.shr_audit_lists.proofs.paired.any_moves.Given as goal

abbrev pub invariant-loop-entry : goal.invariant-loop-entry
invariant-loop-entry l = list_any (moves l.child) (drop l.entry-index l.entries) ≡ list_any (moves l.child) l.entries
