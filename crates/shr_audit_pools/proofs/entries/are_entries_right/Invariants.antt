-- SPDX-License-Identifier: GPL-2.0-only
use Rattle.shr_audit_pools.proofs.Common.{◌≡◌, ◌<◌, ℕ, Some, slice_get, PlainEntry, IsEntryRight, named_place}
use Rattle.shr_audit_pools.proofs.entries.are_entries_right.Given as goal

abbrev pub invariant-loop-number : goal.invariant-loop-number
invariant-loop-number l = (n : ℕ) (e : PlainEntry) → n < l.number → slice_get l.entries n ≡ Some e → IsEntryRight l.script l.report (named_place l.place) n e
