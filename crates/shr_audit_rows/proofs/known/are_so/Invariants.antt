-- SPDX-License-Identifier: GPL-2.0-only
use Rattle.shr_audit_rows.proofs.Common.{◌≡◌, ℕ, ◌<◌, ◌≤◌, Some, get_or, length, take, slice_get, Asked, IsAskedRight, Stands}
use Rattle.shr_audit_rows.proofs.known.are_so.Given as goal

abbrev pub invariant-loop-n : goal.invariant-loop-n
invariant-loop-n l = record {
  stands : Stands (take l.pooled.next l.report.pool.items) l.pooled.phases.items l.pooled.decls.items;
  low : (m : ℕ) (d : Asked) → l.n ≤ m → m < length l.asked → l.pooled.next ≤ (get_or l.asked m d).entry;
  before : (k : ℕ) (a : Asked) → k < l.n → slice_get l.asked k ≡ Some a → IsAskedRight l.script l.report a;
}
