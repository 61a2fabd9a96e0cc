-- SPDX-License-Identifier: GPL-2.0-only
use Rattle.shr_audit_reasons.proofs.Common.{◌≡◌, ◌<◌, ◌≤◌, ℕ, Some, slice_get, PoolEntry, IsEntryCited}
use Rattle.shr_audit_reasons.proofs.registrations.are_entries_cited.Given as goal

abbrev pub invariant-loop-n : goal.invariant-loop-n
invariant-loop-n l = (m : ℕ) (e : PoolEntry) → m < l.n → l.from ≤ m → slice_get l.pool m ≡ Some e → IsEntryCited l.made m e
