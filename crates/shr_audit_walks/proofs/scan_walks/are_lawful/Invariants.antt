-- SPDX-License-Identifier: GPL-2.0-only
use Rattle.shr_audit_walks.proofs.ScansCommon.{◌≡◌, ◌<◌, ℕ, Some, slice_get, WalkRecord, IsLawfulWalk}
use Rattle.shr_audit_walks.proofs.scan_walks.are_lawful.Given as goal

abbrev pub invariant-loop-n : goal.invariant-loop-n
invariant-loop-n l = (m : ℕ) (w : WalkRecord) → m < l.n → slice_get l.walks m ≡ Some w → IsLawfulWalk l.known.script.now l.known.report.now l.worker m w
