-- SPDX-License-Identifier: GPL-2.0-only
use Rattle.std.proofs.Common.{◌≡◌, ◌≤◌, take}
use Rattle.shr_audit_reasons.proofs.Making.{on_in}
use Rattle.shr_audit_reasons.proofs.registrations.count_on.Given as goal

abbrev pub invariant-loop-cache : goal.invariant-loop-cache
invariant-loop-cache l = record {
  count : l.on ≡ on_in (take l.cache-index l.cache-items);
  few : l.on ≤ l.cache-index;
}
