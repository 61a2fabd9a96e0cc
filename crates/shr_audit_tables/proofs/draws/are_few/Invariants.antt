-- SPDX-License-Identifier: GPL-2.0-only
use Rattle.std.proofs.Common.{◌≡◌, ◌+◌, take, sum}
use Rattle.shr_audit_tables.proofs.draws.are_few.Given as goal

abbrev pub invariant-loop-count : goal.invariant-loop-count
invariant-loop-count l = l.left + sum (take l.count-index l.lookups) ≡ l.draws
