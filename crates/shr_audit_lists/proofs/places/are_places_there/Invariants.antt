-- SPDX-License-Identifier: GPL-2.0-only
use Rattle.shr_audit_lists.proofs.Common.{◌≡◌, ◌<◌, ℕ, Some, slice_get, PlaceEnd, IsThere}
use Rattle.shr_audit_lists.proofs.places.are_places_there.Given as goal

abbrev pub invariant-loop-end : goal.invariant-loop-end
invariant-loop-end l = (n : ℕ) (x : PlaceEnd) → n < l.end-index → slice_get l.report.places.items n ≡ Some x → IsThere l.script x.place
