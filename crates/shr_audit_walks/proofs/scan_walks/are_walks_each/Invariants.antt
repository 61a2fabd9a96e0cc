-- SPDX-License-Identifier: GPL-2.0-only
use Rattle.shr_audit_walks.proofs.ScansCommon.{◌≡◌, ◌<◌, ℕ, Some, slice_get, WorkerPart, AreLawful}
use Rattle.shr_audit_walks.proofs.scan_walks.are_walks_each.Given as goal

abbrev pub invariant-loop-worker : goal.invariant-loop-worker
invariant-loop-worker l = (k : ℕ) (part : WorkerPart) → k < l.worker → slice_get l.parts k ≡ Some part → AreLawful l.known.script.now l.known.report.now k part.walks.items
