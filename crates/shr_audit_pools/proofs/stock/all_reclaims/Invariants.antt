-- SPDX-License-Identifier: GPL-2.0-only
use Rattle.shr_audit_pools.proofs.Common.{◌≡◌, take, all_reclaims}
use Rattle.shr_audit_pools.proofs.stock.all_reclaims.Given as goal

abbrev pub invariant-loop-number : goal.invariant-loop-number
invariant-loop-number l = l.reclaims.items ≡ all_reclaims (take l.number l.entries)
