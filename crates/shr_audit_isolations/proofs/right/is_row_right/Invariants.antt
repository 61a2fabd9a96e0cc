-- SPDX-License-Identifier: GPL-2.0-only
use Rattle.shr_audit_isolations.proofs.Common.{◌≡◌, ◌<◌, ℕ, Some, slice_get, Gathered, told_of, IsToldRight}
use Rattle.shr_audit_isolations.proofs.right.is_row_right.Given as goal

abbrev pub invariant-loop-gathered : goal.invariant-loop-gathered
invariant-loop-gathered l = (n : ℕ) (g : Gathered) → n < l.gathered-index → slice_get l.row n ≡ Some g → IsToldRight l.script l.report l.worker (told_of g)
