-- SPDX-License-Identifier: GPL-2.0-only
use Rattle.shr_audit_causes.proofs.OfflinesCommon.{◌≡◌, ℕ, ◌<◌, length, AreOnlySpliced, HasSpliced}
use Rattle.shr_audit_causes.proofs.spliced.spliced_of.Given as goal

abbrev pub invariant-loop-worker : goal.invariant-loop-worker
invariant-loop-worker l = record {
  count : length l.spliced.items ≡ 65536;
  only : AreOnlySpliced l.script l.report l.spliced.items;
  noted : (w : ℕ) → w < l.worker → (k : ℕ) → HasSpliced l.script l.report l.spliced.items w k;
}
