-- SPDX-License-Identifier: GPL-2.0-only
use Rattle.shr_audit_pools.proofs.Common.{◌≡◌, ◌≤◌, take, IsPlainJournal, free_of}
use Rattle.shr_audit_pools.proofs.journals.free_of.Given as goal

abbrev pub invariant-loop-entry : goal.invariant-loop-entry
invariant-loop-entry l = record {
  few : l.free ≤ 20000;
  free : l.free ≡ free_of (take l.entry-index l.entries);
  right : IsPlainJournal (take l.entry-index l.entries);
}
