-- SPDX-License-Identifier: GPL-2.0-only
use Rattle.shr_audit_causes.proofs.OfflinesCommon.{◌≡◌, ◌-◌, length, take, sum_by, AreCappedSums}
use Rattle.shr_audit_causes.proofs.MovedLaws.{moved_by}
use Rattle.shr_audit_causes.proofs.moved.moved_of.Given as goal

abbrev pub invariant-loop-k : goal.invariant-loop-k
invariant-loop-k l = record {
  count : length l.moved.items ≡ 65536;
  sums : AreCappedSums (λ g. sum_by (moved_by l.report g) (take l.k l.ends)) l.moved.items;
}

abbrev pub decreases-loop-k : goal.decreases-loop-k
decreases-loop-k l = length l.ends - l.k
