-- SPDX-License-Identifier: GPL-2.0-only
use Rattle.shr_audit_tables.proofs.Common.{◌≡◌, ◌++◌, take, flat_map, part_draws}
use Rattle.shr_audit_tables.proofs.draws.note_parts.Given as goal

abbrev pub invariant-loop-part : goal.invariant-loop-part
invariant-loop-part l = l.keys.items ≡ l.fn.keys.items ++ flat_map part_draws (take l.part-index l.parts)
