-- SPDX-License-Identifier: GPL-2.0-only
use Rattle.std.proofs.Common.{◌≡◌, ℕ, get_or, length}
use Rattle.shr_audit_reasons.proofs.counted.zeros.Given as goal

abbrev pub invariant-loop-i : goal.invariant-loop-i
invariant-loop-i l = (length l.counts.items ≡ l._i) × ((i : ℕ) → get_or l.counts.items i 0 ≡ 0)
