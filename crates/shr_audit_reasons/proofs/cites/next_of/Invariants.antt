-- SPDX-License-Identifier: GPL-2.0-only
use Rattle.shr_audit_reasons.proofs.Common.{ℕ, ◌<◌, ◌≤◌, IsEntryOfId}
use Rattle.shr_audit_reasons.proofs.cites.next_of.Given as goal

abbrev pub invariant-loop-n : goal.invariant-loop-n
invariant-loop-n l = (m : ℕ) → l.from ≤ m → m < l.n → IsEntryOfId l.pool l.id m → ⊥
