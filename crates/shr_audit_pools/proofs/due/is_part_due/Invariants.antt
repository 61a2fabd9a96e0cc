-- SPDX-License-Identifier: GPL-2.0-only
use Rattle.shr_audit_pools.proofs.DueCommon.{◌≡◌, ◌<◌, ℕ, Some, slice_get, Answered, commands_of, HasDue, plain_walks_with}
use Rattle.shr_audit_pools.proofs.due.is_part_due.Given as goal

abbrev pub invariant-loop-n : goal.invariant-loop-n
invariant-loop-n l = (n : ℕ) (a : Answered) → n < l.n → slice_get l.answers n ≡ Some a → HasDue l.script (commands_of l.script l.worker) n a (plain_walks_with l.part.plain.items n)
