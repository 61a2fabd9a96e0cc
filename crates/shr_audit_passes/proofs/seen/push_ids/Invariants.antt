-- SPDX-License-Identifier: GPL-2.0-only
use Rattle.std.proofs.Common.{◌≡◌, ◌++◌}
use Rattle.shr_audit_passes.specs.Seen.{ids_set_below}
use Rattle.shr_audit_passes.proofs.seen.push_ids.Given as goal

abbrev pub invariant-loop-bit : goal.invariant-loop-bit
invariant-loop-bit l = l.ids.items ≡ l.fn.ids.items ++ ids_set_below l.map.unit l.map.bits l.bit
