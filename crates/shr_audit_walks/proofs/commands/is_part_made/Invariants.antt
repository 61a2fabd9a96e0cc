-- SPDX-License-Identifier: GPL-2.0-only
use Rattle.shr_audit_walks.proofs.RoundsCommon.{◌≡◌, ◌<◌, ℕ, Some, slice_get, Answered, Command, serial_of, IsAnswerMade}
use Rattle.shr_audit_walks.proofs.commands.is_part_made.Given as goal

abbrev pub invariant-loop-n : goal.invariant-loop-n
invariant-loop-n l = (n : ℕ) (a : Answered) (c : Command) → n < l.n → slice_get l.answers n ≡ Some a → slice_get l.commands n ≡ Some c → IsAnswerMade l.dues (serial_of l.worker n) l.walks c a.reply
