-- SPDX-License-Identifier: GPL-2.0-only
use Rattle.shr_audit_replies.proofs.Common.{◌≡◌, ◌<◌, ℕ, List, Some, slice_get, CacheDecl}
use Rattle.shr_audit_replies.proofs.heads.are_names.Given as goal

abbrev pub invariant-loop-i : goal.invariant-loop-i
invariant-loop-i l = (n : ℕ) (x : List ℕ) (y : CacheDecl) → n < l.i → slice_get l.names n ≡ Some x → slice_get l.caches n ≡ Some y → x ≡ y.name
