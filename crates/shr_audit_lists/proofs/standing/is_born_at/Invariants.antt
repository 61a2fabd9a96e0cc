-- SPDX-License-Identifier: GPL-2.0-only
use Rattle.shr_audit_lists.proofs.Common.{◌<◌, List, length, Entry, AreMovesTold}
use Rattle.shr_audit_lists.proofs.Allowing.{IsClimbed}
use Rattle.shr_audit_lists.proofs.standing.is_born_at.Given as goal

abbrev pub invariant-loop-at : goal.invariant-loop-at
invariant-loop-at l = (l.at < length l.parents) × ((before : List Entry) → AreMovesTold before l.moved → IsClimbed l.parents l.group before l.fn.birth l.at)

abbrev pub decreases-loop-at : goal.decreases-loop-at
decreases-loop-at l = l.at
