-- SPDX-License-Identifier: GPL-2.0-only
use Rattle.shr_audit_rows.proofs.Common.{ℕ, ◌<◌, AddsSo}
use Rattle.shr_audit_rows.proofs.AskedLaws.{IsWorkerSo}
use Rattle.shr_audit_rows.proofs.asked.asked_of.Given as goal

abbrev pub invariant-loop-worker : goal.invariant-loop-worker
invariant-loop-worker l = AddsSo l.script l.report l.initial.asked.items l.asked.items ((worker : ℕ) → worker < l.worker → IsWorkerSo l.script l.report worker)
