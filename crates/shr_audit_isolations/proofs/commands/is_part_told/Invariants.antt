-- SPDX-License-Identifier: GPL-2.0-only
use Rattle.shr_audit_isolations.proofs.Common.{◌≡◌, ◌<◌, ℕ, Some, slice_get, Answered, TellsIsolations}
use Rattle.shr_audit_isolations.proofs.commands.is_part_told.Given as goal

abbrev pub invariant-loop-n : goal.invariant-loop-n
invariant-loop-n l = (n : ℕ) (a : Answered) → n < l.n → slice_get l.answers n ≡ Some a → TellsIsolations l.script l.worker l.part.isolations.items n a
