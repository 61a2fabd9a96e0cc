-- SPDX-License-Identifier: GPL-2.0-only
use Rattle.shr_audit_reasons.proofs.SpentCommon.{◌≡◌, take, closed_of}
use Rattle.shr_audit_reasons.proofs.counted.closed_of.Given as goal

abbrev pub invariant-loop-end : goal.invariant-loop-end
invariant-loop-end l = l.closed.items ≡ closed_of (take l.end-index l.ends)
