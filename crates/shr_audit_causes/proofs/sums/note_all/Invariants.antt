-- SPDX-License-Identifier: GPL-2.0-only
use Rattle.shr_audit_causes.proofs.UnregistersCommon.{◌+◌, ◌*◌, ℕ, take, sum_by, Serial, drained_by, AreSums}
use Rattle.shr_audit_causes.proofs.sums.note_all.Given as goal

abbrev pub invariant-loop-entry : goal.invariant-loop-entry
invariant-loop-entry l = (total : Serial → ℕ) → AreSums l.fn.sums total → AreSums l.sums (λ by. total by + l.times * sum_by (drained_by by) (take l.entry-index l.entries))
