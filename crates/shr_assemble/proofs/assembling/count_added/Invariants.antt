-- SPDX-License-Identifier: GPL-2.0-only
use Rattle.shr_assemble.proofs.Common.{◌≡◌, ◌≤◌, take, length, added_by_all}
use Rattle.shr_assemble.proofs.assembling.count_added.Given as goal

abbrev pub invariant-loop-entry : goal.invariant-loop-entry
invariant-loop-entry l = record {
  count : l.count ≡ length (added_by_all (take l.entry-index l.entries));
  few : l.count ≤ l.entry-index;
}
