-- SPDX-License-Identifier: GPL-2.0-only
use Rattle.shr_audit_formed.proofs.Common.{◌≡◌, ◌+◌, ◌<◌, ℕ, Some, slice_get, IsUseBefore}
use Rattle.shr_base.specs.declared.journals.UseStep.{UseStep}
use Rattle.shr_audit_formed.proofs.tables.uses_stand.Given as goal

abbrev pub invariant-loop-i : goal.invariant-loop-i
invariant-loop-i l = (n : ℕ) (x y : UseStep) → n + 1 < l.i → slice_get l.uses n ≡ Some x → slice_get l.uses (n + 1) ≡ Some y → IsUseBefore x y
