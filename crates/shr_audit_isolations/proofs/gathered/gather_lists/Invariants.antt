-- SPDX-License-Identifier: GPL-2.0-only
use Rattle.shr_audit_isolations.proofs.Common.{◌<◌, ℕ, GainsScans, IsOfTheirs, journals_to}
use Rattle.shr_audit_isolations.proofs.gathered.gather_lists.Given as goal

abbrev pub invariant-loop-k : goal.invariant-loop-k
invariant-loop-k l = record {
  right : (n : ℕ) → n < l.k → IsOfTheirs l.fn.table.items l.ends n;
  gains : GainsScans (journals_to l.ends l.k) l.fn.table.items l.table.items;
}
