-- SPDX-License-Identifier: GPL-2.0-only
use Rattle.shr_audit_pools.proofs.Common.{◌≡◌, ◌+◌, sum_by, take, reclaim_freed}
use Rattle.shr_audit_pools.proofs.passes.have_freed.Given as goal

abbrev pub invariant-loop-reclaimed : goal.invariant-loop-reclaimed
invariant-loop-reclaimed l = l.left + sum_by reclaim_freed (take l.reclaimed-index l.reclaims) ≡ l.told
