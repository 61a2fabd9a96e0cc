-- SPDX-License-Identifier: GPL-2.0-only
use Rattle.shr_audit_rows.proofs.Common.{ℕ, ◌<◌, AddsSo, IsSoIfAsked, asked_at}
use Rattle.shr_audit_rows.proofs.asked.add_worker.Given as goal

abbrev pub invariant-loop-number : goal.invariant-loop-number
invariant-loop-number l = AddsSo l.script l.report l.fn.asked.items l.asked.items ((k : ℕ) → k < l.number → IsSoIfAsked l.script l.report (asked_at l.script l.report l.worker k))
