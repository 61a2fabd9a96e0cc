-- SPDX-License-Identifier: GPL-2.0-only
use Rattle.std.proofs.Common.{◌≡◌, drop}
use Rattle.shr_report.specs.ReadWords.{num}
use Rattle.shr_audit_text.proofs.Onto.{onto}
use Rattle.shr_audit_text.proofs.words.number.Given as goal

abbrev pub invariant-loop-b : goal.invariant-loop-b
invariant-loop-b l = onto l.n (drop l.b-index l.word) ≡ num l.word
