-- SPDX-License-Identifier: GPL-2.0-only
use Rattle.shr_audit_pools.proofs.Common.{◌≡◌, ◌<◌, ℕ, Some, slice_get, Reclaimed, IsReclaimAfter}
use Rattle.shr_audit_pools.proofs.passes.are_alike.Given as goal

abbrev pub invariant-loop-reclaimed : goal.invariant-loop-reclaimed
invariant-loop-reclaimed l = (n : ℕ) (x : Reclaimed) → n < l.reclaimed-index → slice_get l.reclaims n ≡ Some x → IsReclaimAfter l.size l.version x
