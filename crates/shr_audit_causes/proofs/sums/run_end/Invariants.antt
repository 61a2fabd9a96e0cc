-- SPDX-License-Identifier: GPL-2.0-only
use Rattle.shr_audit_causes.proofs.UnregistersCommon.{◌≡◌, ◌<◌, ◌≤◌, ℕ, Some, slice_get, PlaceEnd}
use Rattle.shr_audit_causes.proofs.sums.run_end.Given as goal

abbrev pub invariant-loop-n : goal.invariant-loop-n
invariant-loop-n l = (m : ℕ) (x y : PlaceEnd) → l.k ≤ m → m < l.n → slice_get l.ends l.k ≡ Some x → slice_get l.ends m ≡ Some y → y.place ≡ x.place
