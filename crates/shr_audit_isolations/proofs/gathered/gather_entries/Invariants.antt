-- SPDX-License-Identifier: GPL-2.0-only
use Rattle.shr_audit_isolations.proofs.Common.{◌≡◌, ◌<◌, ℕ, Some, slice_get, take, Entry, GainsScans, IsOfTold, at_place}
use Rattle.shr_audit_isolations.proofs.gathered.gather_entries.Given as goal

abbrev pub invariant-loop-entry : goal.invariant-loop-entry
invariant-loop-entry l = record {
  right : (n : ℕ) (e : Entry) → n < l.entry-index → slice_get l.entries n ≡ Some e → IsOfTold l.fn.table.items l.place e;
  gains : GainsScans (at_place l.place (take l.entry-index l.entries)) l.fn.table.items l.table.items;
}
