-- SPDX-License-Identifier: GPL-2.0-only
use Rattle.shr_audit_reasons.proofs.Common.{◌≡◌, length, AreCitedBefore}
use Rattle.shr_audit_reasons.proofs.cites.note_worker.Given as goal

abbrev pub invariant-loop-number : goal.invariant-loop-number
invariant-loop-number l = record {
  count : length l.table.items ≡ length l.fn.table.items;
  noted : AreCitedBefore l.script l.report l.what l.worker 0 l.fn.table.items → AreCitedBefore l.script l.report l.what l.worker l.number l.table.items;
}
