-- SPDX-License-Identifier: GPL-2.0-only
use Rattle.shr_audit_passes.proofs.Common.{◌≡◌, ◌+◌, sum_by, take, freed_of_scan}
use Rattle.shr_audit_passes.proofs.scans.scans_free.Given as goal

abbrev pub invariant-loop-scan : goal.invariant-loop-scan
invariant-loop-scan l = l.left + sum_by freed_of_scan (take l.scan-index l.scans) ≡ l.told
