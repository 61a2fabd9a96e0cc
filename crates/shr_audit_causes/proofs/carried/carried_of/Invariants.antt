-- SPDX-License-Identifier: GPL-2.0-only
use Rattle.shr_audit_causes.proofs.OfflinesCommon.{◌≡◌, length, take, HasCarriedSums}
use Rattle.shr_audit_causes.proofs.carried.carried_of.Given as goal

abbrev pub invariant-loop-carry : goal.invariant-loop-carry
invariant-loop-carry l = record {
  count : length l.carried.items ≡ l.count;
  each : HasCarriedSums l.worker (take l.carry-index l.carry-items) l.carried.items;
}
