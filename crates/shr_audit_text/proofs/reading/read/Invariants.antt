-- SPDX-License-Identifier: GPL-2.0-only
use Rattle.shr_audit_text.proofs.Common.{length, pieces, Report, drafted_report, nothing_read, Reads}
use Rattle.shr_audit_text.proofs.reading.read.Given as goal

abbrev pub invariant-loop-line : goal.invariant-loop-line
invariant-loop-line l = (r : Report) → Reads (pieces 10 l.fn.bytes) nothing_read r → Reads (pieces 10 l.rest) (drafted_report l.draft) r

abbrev pub decreases-loop-line : goal.decreases-loop-line
decreases-loop-line l = length (pieces 10 l.rest)
