-- SPDX-License-Identifier: GPL-2.0-only
use Rattle.std.proofs.Common.{◌≡◌, ℕ, get_or, length}
use Rattle.shr_audit_lists.proofs.phases.all_idle.Given as goal

abbrev pub invariant-loop-id : goal.invariant-loop-id
invariant-loop-id l = (length l.phases.items ≡ l._id) × ((i : ℕ) → get_or l.phases.items i 0 ≡ 0)
