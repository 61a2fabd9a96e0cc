-- SPDX-License-Identifier: GPL-2.0-only
use Rattle.shr_audit_isolations.proofs.Common.{◌≡◌, ◌<◌, ℕ, Some, slice_get, met_one, IsolationScan, met_by}
use Rattle.shr_audit_isolations.proofs.lawful.are_ones.Given as goal

abbrev pub invariant-loop-scan : goal.invariant-loop-scan
invariant-loop-scan l = (n : ℕ) (x : IsolationScan) → n < l.scan-index → slice_get l.scans n ≡ Some x → met_by x ≡ met_one
