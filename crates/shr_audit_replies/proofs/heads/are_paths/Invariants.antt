-- SPDX-License-Identifier: GPL-2.0-only
use Rattle.shr_audit_replies.proofs.Common.{◌≡◌, ◌<◌, ℕ, List, Some, slice_get, GroupDecl}
use Rattle.shr_audit_replies.proofs.heads.are_paths.Given as goal

abbrev pub invariant-loop-i : goal.invariant-loop-i
invariant-loop-i l = (n : ℕ) (x : List ℕ) (y : GroupDecl) → n < l.i → slice_get l.paths n ≡ Some x → slice_get l.groups n ≡ Some y → x ≡ y.path
