-- SPDX-License-Identifier: GPL-2.0-only
use Rattle.shr_audit_tables.proofs.Common.{◌≡◌, ◌++◌, take, flat_map, attempt_draws}
use Rattle.shr_audit_tables.proofs.draws.note_attempts.Given as goal

abbrev pub invariant-loop-attempt : goal.invariant-loop-attempt
invariant-loop-attempt l = l.keys.items ≡ l.fn.keys.items ++ flat_map attempt_draws (take l.attempt-index l.attempts)
