-- SPDX-License-Identifier: GPL-2.0-only
use Rattle.shr_audit_tables.proofs.Common.{◌≡◌, ◌++◌, take, flat_map, walk_draws}
use Rattle.shr_audit_tables.proofs.draws.note_walks.Given as goal

abbrev pub invariant-loop-walk : goal.invariant-loop-walk
invariant-loop-walk l = l.keys.items ≡ l.fn.keys.items ++ flat_map walk_draws (take l.walk-index l.walks)
