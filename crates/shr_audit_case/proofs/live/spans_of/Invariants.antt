-- SPDX-License-Identifier: GPL-2.0-only
use Rattle.shr_audit_case.proofs.RegistrationsCommon.{◌≤◌, drop, length, AreLivesNoted}
use Rattle.shr_audit_case.proofs.live.spans_of.Given as goal

abbrev pub invariant-loop-left : goal.invariant-loop-left
invariant-loop-left l = record { within : l.left ≤ length l.pool; noted : AreLivesNoted l.left (drop l.left l.pool) l.spans.items l.ends }

abbrev pub decreases-loop-left : goal.decreases-loop-left
decreases-loop-left l = l.left
