-- SPDX-License-Identifier: GPL-2.0-only
use Rattle.shr_audit_case.proofs.ReplayCommon.{◌≡◌, ℕ, ◌-◌, List, length, Object, Place, Family, AreJournals, ArePrinted}
use Rattle.shr_audit_case.proofs.Climbing.{AreClimbed}
use Rattle.shr_audit_case.proofs.groups.replay_groups.Given as goal

abbrev pub invariant-loop-k : goal.invariant-loop-k
invariant-loop-k l = (length l.lists.items ≡ length l.parents)
    × (length l.told.items ≡ l.k)
    × ((family : Family) (printed : Place → List Object) (place : Place) → AreJournals l.ends l.firsts (length l.parents) family place
    → ArePrinted l.ends l.firsts (length l.parents) printed place → AreClimbed l.parents family printed place (length l.parents - l.k) l.lists.items l.told.items)
