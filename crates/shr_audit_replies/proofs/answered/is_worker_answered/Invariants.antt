-- SPDX-License-Identifier: GPL-2.0-only
use Rattle.shr_audit_replies.proofs.Common.{◌≡◌, ◌<◌, ℕ, Some, slice_get, Answered, Command, command_at, serial_of, IsAnswered}
use Rattle.shr_audit_replies.proofs.answered.is_worker_answered.Given as goal

abbrev pub invariant-loop-number : goal.invariant-loop-number
invariant-loop-number l = (n : ℕ) (a : Answered) → n < l.number → slice_get l.answers n ≡ Some a → (c : Command) → command_at l.script (serial_of l.worker n) ≡ Some c → IsAnswered l.script l.report (serial_of l.worker n) c a
