-- SPDX-License-Identifier: GPL-2.0-only
use Rattle.shr_audit_passes.proofs.Common.{◌≡◌, ◌<◌, ℕ, Some, slice_get, Answered, IsAnswerTold}
use Rattle.shr_audit_passes.proofs.commands.is_part_told.Given as goal

abbrev pub invariant-loop-n : goal.invariant-loop-n
invariant-loop-n l = (n : ℕ) (a : Answered) → n < l.n → slice_get l.answers n ≡ Some a → IsAnswerTold l.script l.worker l.part.walks.items n a
