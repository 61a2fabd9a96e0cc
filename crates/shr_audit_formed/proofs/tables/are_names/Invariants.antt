-- SPDX-License-Identifier: GPL-2.0-only
use Rattle.shr_audit_formed.proofs.Common.{◌≡◌, ◌<◌, ℕ, Some, true, List, slice_get, is_name}
use Rattle.shr_audit_formed.proofs.tables.are_names.Given as goal

abbrev pub invariant-loop-name : goal.invariant-loop-name
invariant-loop-name l = (n : ℕ) (x : List ℕ) → n < l.name-index → slice_get l.names n ≡ Some x → is_name x ≡ true
