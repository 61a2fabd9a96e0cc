-- SPDX-License-Identifier: GPL-2.0-only
use Rattle.shr_audit_rows.proofs.Common.{◌≡◌, ℕ, ◌<◌, false, is_free_in}
use Rattle.shr_audit_rows.proofs.pooled.Pooled.has_free.Given as goal

abbrev pub invariant-loop-id : goal.invariant-loop-id
invariant-loop-id l = (k : ℕ) → k < l.id → is_free_in l.self.phases.items k ≡ false
