-- SPDX-License-Identifier: GPL-2.0-only
use Rattle.shr_audit_pools.proofs.Common.{◌≡◌, ◌+◌, sum_by, take, freed_in_try}
use Rattle.shr_audit_pools.proofs.walks.have_freed.Given as goal

abbrev pub invariant-loop-tried : goal.invariant-loop-tried
invariant-loop-tried l = l.left + sum_by freed_in_try (take l.tried-index l.tries) ≡ l.told
