-- SPDX-License-Identifier: GPL-2.0-only
use Rattle.shr_audit_reasons.proofs.Common.{◌≡◌, ℕ, length, Never, cited_in}
use Rattle.shr_audit_reasons.proofs.cites.none_cited.Given as goal

abbrev pub invariant-loop-n : goal.invariant-loop-n
invariant-loop-n l = record {
  count : length l.table.items ≡ l._n;
  each : (n : ℕ) → cited_in l.table.items n ≡ Never;
}
