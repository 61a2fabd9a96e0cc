-- SPDX-License-Identifier: GPL-2.0-only
use Rattle.std.proofs.Common.{◌≤◌, drop, length}
use Rattle.shr_audit_charges.proofs.OwnLaw.{AreFollowed, AreLater}
use Rattle.shr_audit_charges.proofs.own.are_own_right.Given as goal

abbrev pub invariant-loop-left : goal.invariant-loop-left
invariant-loop-left l = record { within : l.left ≤ length l.uses; followed : AreFollowed l.limits (drop l.left l.uses); kept : AreLater (drop l.left l.uses) l.later }

abbrev pub decreases-loop-left : goal.decreases-loop-left
decreases-loop-left l = l.left
