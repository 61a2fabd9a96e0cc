-- SPDX-License-Identifier: GPL-2.0-only
use Rattle.shr_audit_charges.proofs.Common.{◌≡◌, ◌<◌, ℕ, Some, slice_get, UseStep, IsUpOfPut}
use Rattle.shr_audit_charges.proofs.puts.are_ups_of_puts.Given as goal

abbrev pub invariant-loop-step : goal.invariant-loop-step
invariant-loop-step l = (n : ℕ) (x : UseStep) → n < l.step-index → slice_get l.uses n ≡ Some x → IsUpOfPut l.script x
