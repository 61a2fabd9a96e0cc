-- SPDX-License-Identifier: GPL-2.0-only
use Rattle.std.proofs.Common.{◌≡◌, ℕ, false, get_or, length}
use Rattle.shr_audit_sweep.proofs.marks.blank.Given as goal

abbrev pub invariant-loop : goal.invariant-loop
invariant-loop l = (length l.marks.items ≡ l.counter) × ((i : ℕ) → get_or l.marks.items i false ≡ false)
