-- SPDX-License-Identifier: GPL-2.0-only
use Rattle.shr_audit_reasons.proofs.Common.{◌≡◌, length, AreCitedBefore}
use Rattle.shr_audit_reasons.proofs.cites.note_answers.Given as goal

abbrev pub invariant-loop-worker : goal.invariant-loop-worker
invariant-loop-worker l = record {
  count : length l.table.items ≡ l.size;
  noted : AreCitedBefore l.script l.report l.what l.worker 0 l.table.items;
}
