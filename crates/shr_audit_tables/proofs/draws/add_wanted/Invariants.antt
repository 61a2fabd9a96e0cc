-- SPDX-License-Identifier: GPL-2.0-only
use Rattle.shr_audit_tables.proofs.Common.{◌≡◌, ◌++◌, take, wanted_from}
use Rattle.shr_audit_tables.proofs.draws.add_wanted.Given as goal

abbrev pub invariant-loop-id : goal.invariant-loop-id
invariant-loop-id l = l.moves.items ≡ l.fn.moves.items ++ wanted_from 0 (take l.id l.lookups)
