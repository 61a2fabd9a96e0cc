-- SPDX-License-Identifier: GPL-2.0-only
use Rattle.std.proofs.Common.{◌≡◌, ◌<◌, ℕ, get_or}
use Rattle.shr_audit_walks.proofs.rounds.take_out.Given as goal

abbrev pub invariant-loop-k : goal.invariant-loop-k
invariant-loop-k l = record {
  kept : l.groups.items ≡ l.fn.groups.items;
  none : (k : ℕ) → k < l.k → get_or l.groups.items k 0 ≡ l.group → ⊥;
}
