-- SPDX-License-Identifier: GPL-2.0-only
use Rattle.shr_audit_walks.proofs.ScansCommon.{◌≡◌, ◌<◌, ℕ, Some, slice_get, Attempt, IsScannedAt}
use Rattle.shr_audit_walks.proofs.scan_walks.are_scanned.Given as goal

abbrev pub invariant-loop-attempt : goal.invariant-loop-attempt
invariant-loop-attempt l = (m : ℕ) (a : Attempt) → m < l.attempt-index → slice_get l.attempt-items m ≡ Some a → IsScannedAt l.known.script.now l.known.report.now l.worker l.n l.walk a
