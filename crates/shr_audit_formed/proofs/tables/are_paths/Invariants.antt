-- SPDX-License-Identifier: GPL-2.0-only
use Rattle.shr_audit_formed.proofs.Common.{◌≡◌, ◌<◌, ℕ, Some, true, List, slice_get, is_path}
use Rattle.shr_audit_formed.proofs.tables.are_paths.Given as goal

abbrev pub invariant-loop-path : goal.invariant-loop-path
invariant-loop-path l = (n : ℕ) (x : List ℕ) → n < l.path-index → slice_get l.paths n ≡ Some x → is_path x ≡ true
