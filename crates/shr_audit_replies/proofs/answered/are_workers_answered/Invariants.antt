-- SPDX-License-Identifier: GPL-2.0-only
use Rattle.shr_audit_replies.proofs.Common.{◌≡◌, ◌<◌, ℕ, Some, slice_get, Answered, Command, WorkerPart, command_at, serial_of, IsAnswered}
use Rattle.shr_audit_replies.proofs.answered.are_workers_answered.Given as goal

abbrev pub invariant-loop-worker : goal.invariant-loop-worker
invariant-loop-worker l = (k : ℕ) (part : WorkerPart) → k < l.worker → slice_get l.parts k ≡ Some part → (n : ℕ) (a : Answered) → slice_get part.answers.items n ≡ Some a → (c : Command) → command_at l.script (serial_of k n) ≡ Some c → IsAnswered l.script l.report (serial_of k n) c a
