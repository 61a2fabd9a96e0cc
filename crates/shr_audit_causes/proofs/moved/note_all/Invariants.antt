-- SPDX-License-Identifier: GPL-2.0-only
use Rattle.shr_audit_causes.proofs.OfflinesCommon.{◌≡◌, ◌+◌, ◌*◌, ℕ, length, take, sum_by, moved_of, AreCappedSums}
use Rattle.shr_audit_causes.proofs.moved.note_all.Given as goal

abbrev pub invariant-loop-entry : goal.invariant-loop-entry
invariant-loop-entry l = record {
  count : length l.moved.items ≡ length l.fn.moved.items;
  noted : (sums : ℕ → ℕ) → AreCappedSums sums l.fn.moved.items → AreCappedSums (λ g. sums g + l.times * sum_by (moved_of g) (take l.entry-index l.entries)) l.moved.items;
}
