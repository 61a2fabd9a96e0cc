-- SPDX-License-Identifier: GPL-2.0-only
use Rattle.shr_audit_lists.proofs.Common.{◌≡◌, drop, is_closed}
use Rattle.shr_audit_lists.proofs.done.is_closed.Given as goal

abbrev pub invariant-loop-entry : goal.invariant-loop-entry
invariant-loop-entry l = is_closed (drop l.entry-index l.entries) ≡ is_closed l.entries
