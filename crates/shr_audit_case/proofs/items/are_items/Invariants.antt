-- SPDX-License-Identifier: GPL-2.0-only
use Rattle.std.proofs.Common.{length}
use Rattle.shr_audit_case.proofs.Matching.{IsMatched}
use Rattle.shr_audit_case.proofs.items.are_items.Given as goal

abbrev pub invariant-objects : goal.invariant-objects
invariant-objects l = IsMatched l.queue.nodes l.at l.printed.items l.walk

abbrev pub decreases-objects : goal.decreases-objects
decreases-objects l = length l.walk
