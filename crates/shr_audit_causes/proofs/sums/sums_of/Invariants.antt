-- SPDX-License-Identifier: GPL-2.0-only
use Rattle.shr_audit_causes.proofs.UnregistersCommon.{◌-◌, ◌≤◌, length, AreSums}
use Rattle.shr_audit_causes.proofs.SumsLaws.{drained_upto}
use Rattle.shr_audit_causes.proofs.sums.sums_of.Given as goal

abbrev pub invariant-loop-k : goal.invariant-loop-k
invariant-loop-k l = record { within : l.k ≤ length l.ends; summed : AreSums l.sums (drained_upto l.report l.ends l.k) }

abbrev pub decreases-loop-k : goal.decreases-loop-k
decreases-loop-k l = length l.ends - l.k
