-- SPDX-License-Identifier: GPL-2.0-only
use Rattle.shr_audit_fresh.proofs.Common.{ℕ, ◌<◌, Answered, of_answer, tree_cited, serial_of, IsEntryStarted}
use Rattle.shr_audit_fresh.proofs.started.are_answers_started.Given as goal

abbrev pub invariant-loop-number : goal.invariant-loop-number
invariant-loop-number l = (k : ℕ) → k < l.number → IsEntryStarted l.report l.begun l.worker k (of_answer l.report (serial_of l.worker k) (λ (a : Answered). tree_cited a.reply))
