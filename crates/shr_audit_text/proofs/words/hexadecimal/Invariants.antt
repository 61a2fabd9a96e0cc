-- SPDX-License-Identifier: GPL-2.0-only
use Rattle.std.proofs.Common.{◌≡◌, drop}
use Rattle.shr_report.specs.ReadWords.{hex_onto, unhex}
use Rattle.shr_audit_text.proofs.words.hexadecimal.Given as goal

abbrev pub invariant-loop-b : goal.invariant-loop-b
invariant-loop-b l = hex_onto l.n (drop l.b-index l.word) ≡ unhex l.word
