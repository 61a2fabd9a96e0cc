-- SPDX-License-Identifier: GPL-2.0-only
use Rattle.shr_audit_walks.proofs.RoundsCommon.{◌↔◌, IsAtOrAbove}
use Rattle.shr_audit_walks.proofs.puts.is_at_or_above.Given as goal

abbrev pub invariant-loop-at : goal.invariant-loop-at
invariant-loop-at l = IsAtOrAbove l.parents l.above l.at ↔ IsAtOrAbove l.parents l.above l.group

abbrev pub decreases-loop-at : goal.decreases-loop-at
decreases-loop-at l = l.at
