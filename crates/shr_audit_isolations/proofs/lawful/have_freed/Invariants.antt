-- SPDX-License-Identifier: GPL-2.0-only
use Rattle.shr_audit_isolations.proofs.Common.{◌≡◌, ◌+◌, sum_by, take, isolation_freed}
use Rattle.shr_audit_isolations.proofs.lawful.have_freed.Given as goal

abbrev pub invariant-loop-scan : goal.invariant-loop-scan
invariant-loop-scan l = l.left + sum_by isolation_freed (take l.scan-index l.scans) ≡ l.freed
