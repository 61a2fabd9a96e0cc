-- SPDX-License-Identifier: GPL-2.0-only
use Rattle.shr_audit_formed.proofs.Common.{◌≡◌, ◌<◌, ℕ, Some, slice_get, MapSeen, IsBitWord}
use Rattle.shr_audit_formed.proofs.parts.seen_fit.Given as goal

abbrev pub invariant-loop-map : goal.invariant-loop-map
invariant-loop-map l = (n : ℕ) (x : MapSeen) → n < l.map-index → slice_get l.maps n ≡ Some x → IsBitWord x.bits
