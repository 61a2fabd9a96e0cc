-- SPDX-License-Identifier: GPL-2.0-only
use Rattle.shr_audit_fresh.proofs.Common.{of_answer, shown_by, tree_seen, serial_of, AreKnownBelow, IsFloorBefore}
use Rattle.shr_audit_fresh.proofs.own.is_shown_below.Given as goal

abbrev pub invariant-loop-number : goal.invariant-loop-number
invariant-loop-number l = record {
  floor : IsFloorBefore (λ k. shown_by l.report (serial_of l.worker k)) l.number l.floor;
  below : AreKnownBelow (λ k. shown_by l.report (serial_of l.worker k)) (λ k. of_answer l.report (serial_of l.worker k) tree_seen) l.number;
}
