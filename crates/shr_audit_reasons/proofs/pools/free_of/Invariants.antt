-- SPDX-License-Identifier: GPL-2.0-only
use Rattle.std.proofs.Common.{◌≡◌, ◌≤◌, ◌*◌, drop}
use Rattle.std.specs.Prelude.{◌^◌, fold}
use Rattle.shr_model.specs.Units.{free_after, free_of}
use Rattle.shr_audit_reasons.proofs.pools.free_of.Given as goal

abbrev pub invariant-loop-entry : goal.invariant-loop-entry
invariant-loop-entry l = (fold free_after l.free (drop l.entry-index l.entries) ≡ free_of l.entries) × (l.free ≤ l.entry-index * 2 ^ 32)
