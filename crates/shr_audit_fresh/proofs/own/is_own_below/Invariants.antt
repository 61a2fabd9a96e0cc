-- SPDX-License-Identifier: GPL-2.0-only
use Rattle.shr_audit_fresh.proofs.Common.{Answered, of_answer, pool_made, pool_seen, serial_of, AreKnownBelow, IsFloorBefore}
use Rattle.shr_audit_fresh.proofs.own.is_own_below.Given as goal

abbrev pub invariant-loop-number : goal.invariant-loop-number
invariant-loop-number l = record {
  floor : IsFloorBefore (λ k. of_answer l.report (serial_of l.worker k) (λ (a : Answered). pool_made a.reply)) l.number l.floor;
  below : AreKnownBelow (λ k. of_answer l.report (serial_of l.worker k) (λ (a : Answered). pool_made a.reply)) (λ k. of_answer l.report (serial_of l.worker k) pool_seen) l.number;
}
