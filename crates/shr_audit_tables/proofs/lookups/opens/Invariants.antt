-- SPDX-License-Identifier: GPL-2.0-only
use Rattle.shr_audit_tables.proofs.Common.{◌≡◌, ◌<◌, ℕ, Some, slice_get, Registered}
use Rattle.shr_audit_tables.proofs.lookups.opens.Given as goal

abbrev pub invariant-loop-n : goal.invariant-loop-n
invariant-loop-n l = (n decl : ℕ) → n < l.n → slice_get l.on n ≡ Some decl → slice_get l.pool n ≡ Some (Registered decl n 0)
