-- SPDX-License-Identifier: GPL-2.0-only
use Rattle.shr_audit_case.specs.Replaying.{AreFirsts}
use Rattle.shr_audit_case.proofs.lists.firsts_at.Given as goal

abbrev pub invariant-loop-group : goal.invariant-loop-group
invariant-loop-group l = AreFirsts l.ends l.place l.group l.firsts.items
