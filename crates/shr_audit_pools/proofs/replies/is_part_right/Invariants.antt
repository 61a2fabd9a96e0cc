-- SPDX-License-Identifier: GPL-2.0-only
use Rattle.shr_audit_pools.proofs.Common.{◌≡◌, ◌<◌, ℕ, Some, slice_get, Answered, commands_of, HasRight}
use Rattle.shr_audit_pools.proofs.replies.is_part_right.Given as goal

abbrev pub invariant-loop-n : goal.invariant-loop-n
invariant-loop-n l = (n : ℕ) (a : Answered) → n < l.n → slice_get l.answers n ≡ Some a → HasRight l.script l.report l.worker (commands_of l.script l.worker) n a
