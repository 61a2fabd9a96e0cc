-- SPDX-License-Identifier: GPL-2.0-only
use Rattle.shr_audit_passes.proofs.Common.{◌≡◌, ◌<◌, ℕ, Some, slice_get, ScanSeen, IsScanAfter}
use Rattle.shr_audit_passes.proofs.scans.are_alike.Given as goal

abbrev pub invariant-loop-scan : goal.invariant-loop-scan
invariant-loop-scan l = (n : ℕ) (x : ScanSeen) → n < l.scan-index → slice_get l.scans n ≡ Some x → IsScanAfter l.size l.policy l.version x
