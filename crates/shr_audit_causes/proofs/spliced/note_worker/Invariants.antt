-- SPDX-License-Identifier: GPL-2.0-only
use Rattle.shr_audit_causes.proofs.OfflinesCommon.{ℕ, ◌<◌, AddsSpliced, HasSpliced}
use Rattle.shr_audit_causes.proofs.spliced.note_worker.Given as goal

abbrev pub invariant-loop-number : goal.invariant-loop-number
invariant-loop-number l = record {
  adds : AddsSpliced l.script l.report l.fn.spliced.items l.spliced.items;
  noted : (k : ℕ) → k < l.number → HasSpliced l.script l.report l.spliced.items l.worker k;
}
