-- SPDX-License-Identifier: GPL-2.0-only
use Rattle.shr_audit_pools.proofs.Common.{◌≡◌, ◌+◌, ◌≤◌, ℕ, get_or, length, take, free_of}
use Rattle.shr_audit_pools.proofs.stock.free_counts.Given as goal

abbrev pub invariant-loop-entry : goal.invariant-loop-entry
invariant-loop-entry l = record {
  few : l.free ≤ 20000;
  free : l.free ≡ free_of (take l.entry-index l.entries);
  count : length l.counts.items ≡ l.entry-index + 1;
  each : (n : ℕ) → n ≤ l.entry-index → get_or l.counts.items n 0 ≡ free_of (take n l.entries);
}
