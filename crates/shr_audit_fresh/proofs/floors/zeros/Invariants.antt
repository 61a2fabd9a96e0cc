-- SPDX-License-Identifier: GPL-2.0-only
use Rattle.std.proofs.Common.{◌≡◌, ℕ, get_or, length}
use Rattle.shr_audit_fresh.proofs.floors.zeros.Given as goal

abbrev pub invariant-loop-k : goal.invariant-loop-k
invariant-loop-k l = (length l.floors.items ≡ l._k) × ((k : ℕ) → get_or l.floors.items k 0 ≡ 0)
