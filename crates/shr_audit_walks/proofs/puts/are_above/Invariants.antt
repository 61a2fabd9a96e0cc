-- SPDX-License-Identifier: GPL-2.0-only
use Rattle.shr_audit_walks.proofs.RoundsCommon.{ℕ, take, AllByRecursion, IsAtOrAbove}
use Rattle.shr_audit_walks.proofs.puts.are_above.Given as goal

abbrev pub invariant-loop-above : goal.invariant-loop-above
invariant-loop-above l = AllByRecursion (λ (h : ℕ). IsAtOrAbove l.parents h l.group) (take l.above-index l.groups)
